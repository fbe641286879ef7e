-- What a request over the network of a sheet is answered. Assumes nothing.
use Rattle.std.specs.Prelude.{◌≡◌, ℕ, List, [], length, Ok, Err}
use Rattle.network.specs.declared.legs.Leg.{Leg}
use Rattle.network.specs.declared.legs.Network.{Network}
use Rattle.network.specs.declared.plans.Plan.{Plan}
use Rattle.network.specs.declared.refusals.Refusal.{Refusal}
use Rattle.network.specs.Tariffs.{total_fee}
use Rattle.search.specs.declared.record.Verdict.{Verdict}
use Rattle.planner.specs.Desks.{granted}
use Rattle.planner.specs.Tallies.{allowing}
use Rattle.planner.specs.Serves.{Ground, ground, Desk, Serves}
use Rattle.planner.specs.Fulfils.{Fulfils}
use Rattle.report.specs.Reports.{load_of_sheet, table_of_sheet}
use Rattle.embed.specs.declared.serving.Answer.{Answer}
use Rattle.embed.specs.declared.serving.Request.{Request}
use Rattle.embed.specs.Answers.{plan_of, memory_short, refusal_record, verdict_record, told_legs}
use Rattle.embed.specs.Buffers.{laid}

-- Serving the plan p at the desk d is answered by this record, with these legs: a refusal, or the verdict, which means over walks what a
-- served plan is promised, with the legs of the route where one is found.
pub data Told (g : Ground) (p : Plan) (d : Desk) : Answer → List ℕ → Type 0 where
  refused : (why : Refusal) (e : Desk) → Serves g p d (Err why) e → Told g p d (refusal_record why) []
  served : (v : Verdict) (e : Desk) → Serves g p d (Ok v) e → (kept : Fulfils g p d v e)
      → Told g p d (verdict_record v (length kept.legs)) (told_legs v.standing kept.legs)

-- The desk has tables for 1,024 sites, as many label records as the request is granted, and its steps on the tally; what its
-- tables and its search record hold is left open.
pub record Fits (q : Request) (d : Desk) : Type 0 where
  pub costs : length d.costs ≡ 1024
  pub delays : length d.delays ≡ 1024
  pub least : length d.sheet.state.least ≡ 1024
  pub labels : length d.sheet.state.labels ≡ granted q.labels
  pub tally : d.tally ≡ allowing q.steps

-- The request is answered as its plan is served by the total fee, at a desk that fits it, with a queue for as many entries as
-- there are label records; the legs are put into the buffer, if it is long enough.
pub record PlanAnswered (net : Network) (table : List Leg) (q : Request) (before after : List ℕ) (a : Answer) : Type 0 where
  pub at_desk : Desk
  pub fits : Fits q at_desk
  pub legs : List ℕ
  pub told : Told (ground net table total_fee (granted q.labels)) (plan_of q) at_desk a legs
  pub put : after ≡ laid legs before

-- What the request q over the network of a sheet is answered, and the buffer of leg numbers after it: the refusal of the load; or, with
-- the legs of the sheet at the front of the leg table, what its plan comes to; or that memory is short, after an accepted load.
pub data Answers (sheet : List ℕ) (q : Request) (before after : List ℕ) : Answer → Type 0 where
  load_refused : (why : Refusal) → (load_of_sheet 4096 sheet).outcome ≡ Err why → after ≡ before → Answers sheet q before after (refusal_record why)
  answered : (net : Network) → (load_of_sheet 4096 sheet).outcome ≡ Ok net
      → (a : Answer) → PlanAnswered net (table_of_sheet 4096 sheet) q before after a → Answers sheet q before after a
  wants_memory : (net : Network) → (load_of_sheet 4096 sheet).outcome ≡ Ok net → after ≡ before → Answers sheet q before after memory_short
