-- What serving a plan answers, and what it leaves. Assumes nothing.
use Rattle.std.specs.Prelude.{◌≡◌, ℕ, List, length, Some, None, Ok, Err, Result}
use Rattle.network.specs.declared.legs.Leg.{Leg}
use Rattle.network.specs.declared.legs.Network.{Network}
use Rattle.network.specs.declared.plans.Plan.{Plan}
use Rattle.network.specs.declared.refusals.Refusal.{Refusal}
use Rattle.network.specs.Checks.{legs_of}
use Rattle.network.specs.Estimates.{tables_at}
use Rattle.network.specs.Tariffs.{Terms}
use Rattle.network.specs.Walks.{graph}
use Rattle.reach.specs.Reaches.{reach_refusal, Written}
use Rattle.worksheet.specs.Problem.{Setting, asked}
use Rattle.search.specs.declared.record.Verdict.{Verdict}
use Rattle.search.specs.Record.{verdict_on}
use Rattle.search.specs.Calls.{Worksheet, setting, outcome, opening, advancing}
use Rattle.planner.specs.declared.tally.Tally.{Tally}
use Rattle.planner.specs.Tallies.{left_for, reduced}

-- What no plan alters: the network with its leg table, what the tariff means, and the queue's capacity.
pub record Ground : Type 0 where
  pub net : Network
  pub table : List Leg
  pub terms : Terms
  pub capacity : ℕ

abbrev pub ground : Network → List Leg → Terms → ℕ → Ground
ground net table terms capacity = record { net = net; table = table; terms = terms; capacity = capacity }

-- What serving a plan alters: the tables of costs and delays to the goal, the worksheet of the search, and the tally.
pub record Desk : Type 0 where
  pub costs : List ℕ
  pub delays : List ℕ
  pub sheet : Worksheet
  pub tally : Tally

abbrev pub desk : List ℕ → List ℕ → Worksheet → Tally → Desk
desk costs delays sheet tally = record { costs = costs; delays = delays; sheet = sheet; tally = tally }

-- The setting of the search, whose estimate reads the two tables.
abbrev pub searched : Ground → List ℕ → List ℕ → Worksheet → Setting
searched g costs delays w = setting g.net g.table g.terms (tables_at costs delays) w.state.labels w.state.least g.capacity

-- Reach is accepted for the plan's goal, and writes the tables costs and delays, which keep their lengths.
pub record Reached (g : Ground) (p : Plan) (d : Desk) (costs delays : List ℕ) : Type 0 where
  pub accepted : reach_refusal g.net g.table p.goal (length d.costs) (length d.delays) ≡ None
  pub tables : Written (graph g.terms (legs_of g.net g.table)) g.net.sites p.goal d.costs d.delays costs delays
  pub costs_kept : length costs ≡ length d.costs
  pub delays_kept : length delays ≡ length d.delays

-- Serving the plan p at the desk d, what is answered, and the desk after it: reach, then open, then advance by the steps that
-- the tally has left for the plan's broker, then the verdict. The steps made are taken off the tally. A refusal is passed on,
-- and nothing is taken off then. These are all the ways there are; advance is never refused.
pub data Serves (g : Ground) (p : Plan) (d : Desk) : Result Verdict Refusal → Desk → Type 0 where
  reach_refused : (why : Refusal) → reach_refusal g.net g.table p.goal (length d.costs) (length d.delays) ≡ Some why → Serves g p d (Err why) d
  open_refused : (costs delays : List ℕ) → Reached g p d costs delays
      → (why : Refusal) → opening (searched g costs delays d.sheet) (asked p) d.sheet ≡ outcome (Err why) d.sheet
      → Serves g p d (Err why) (desk costs delays d.sheet d.tally)
  served : (costs delays : List ℕ) → Reached g p d costs delays
      → (opened : Worksheet) → opening (searched g costs delays d.sheet) (asked p) d.sheet ≡ outcome (Ok tt) opened
      → (made : ℕ) (after : Worksheet) → advancing (searched g costs delays d.sheet) (left_for d.tally p.broker) opened ≡ outcome (Ok made) after
      → Serves g p d (Ok (verdict_on after)) (desk costs delays after (reduced d.tally p.broker made))
