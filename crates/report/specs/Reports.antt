-- What a sheet is answered: a line for each plan in its order, up to the first refusal. Assumes nothing.
use Rattle.std.specs.Prelude.{◌≡◌, ◌⊎◌, ℕ, true, List, [], ◌++◌, drop, replicate, Some, None, Ok, Err, Option, Result}
use Rattle.network.specs.declared.legs.Leg.{Leg}
use Rattle.network.specs.declared.legs.Network.{Network}
use Rattle.network.specs.declared.plans.Plan.{Plan}
use Rattle.network.specs.declared.refusals.Place.TheVariants as place
use Rattle.network.specs.declared.refusals.Refusal.{Refusal}
use Rattle.network.specs.Refusals.{place_of}
use Rattle.network.specs.Tariffs.{total_fee}
use Rattle.network.specs.Walks.{no_leg}
use Rattle.sheet.specs.Text.{lines}
use Rattle.sheet.specs.Sheets.{Next, next_from, Load, loaded_from}
use Rattle.sheet.specs.Calls.{fronted}
use Rattle.search.specs.declared.record.Verdict.{Verdict}
use Rattle.planner.specs.declared.tally.Tally.{Tally}
use Rattle.planner.specs.Serves.{Ground, ground, Desk, Serves}
use Rattle.planner.specs.Fulfils.{Fulfils}
use Rattle.planner.specs.Desks.{granted, made}
use Rattle.report.specs.declared.lines.Refused.{Refused}
use Rattle.report.specs.Lines.{plan_line, end_line, header}
use Rattle.report.specs.declared.answers.Room.{Room}

-- A refusal, met at this line.
abbrev pub met : Refusal → ℕ → Option Refused
met why line = Some (record { why = why; line = line })

-- What the next plan of a sheet is, from a place and line on, after an accepted load, in a network of n sites.
abbrev pub next_at : List ℕ → ℕ → ℕ → ℕ → Next
next_at sheet n at line = next_from true n at line (lines (drop at sheet))

-- What comes next of a sheet is served at the desk d, which is e then: the plan, by its verdict; or none is left; or a refusal is
-- passed on, of the line or of its plan.
abbrev pub NextServed : Ground → Next → Desk → Result (Option (Plan × Verdict)) Refusal → Desk → Type 0
NextServed g next d (Ok None) e = (next.answer ≡ Ok None) × (e ≡ d)
NextServed g next d (Ok (Some x)) e = (next.answer ≡ Ok (Some x.0)) × Serves g x.0 d (Ok x.1) e × Fulfils g x.0 d x.1 e
NextServed g next d (Err why) e = ((next.answer ≡ Err why) × (e ≡ d)) ⊎ ((p : Plan) × (next.answer ≡ Ok (Some p)) × Serves g p d (Err why) e)

-- The plans from a place and line on, served one after another at a desk, are answered by this text and end so: with none left,
-- or with a refusal, of a line by the reader, which carries that line, or of its plan by serve. Each plan that is served has its
-- line, which says what it is promised, and the next is served at the desk as it is then.
pub data PlansTold (g : Ground) (sheet : List ℕ) : ℕ → ℕ → Desk → List ℕ → Option Refused → Type 0 where
  none_left : (at line : ℕ) (d : Desk) → (next_at sheet g.net.sites at line).answer ≡ Ok None → PlansTold g sheet at line d [] None
  line_refused : (at line : ℕ) (d : Desk) (why : Refusal) → (next_at sheet g.net.sites at line).answer ≡ Err why → place_of why ≡ Some (place.Line line)
      → PlansTold g sheet at line d [] (met why line)
  plan_refused : (at line : ℕ) (d : Desk) (p : Plan) → (next_at sheet g.net.sites at line).answer ≡ Ok (Some p)
      → (why : Refusal) (e : Desk) → Serves g p d (Err why) e → PlansTold g sheet at line d [] (met why line)
  plan_told : (at line : ℕ) (d : Desk) (p : Plan) → (next_at sheet g.net.sites at line).answer ≡ Ok (Some p)
      → (v : Verdict) (e : Desk) → Serves g p d (Ok v) e → (kept : Fulfils g p d v e)
      → (text : List ℕ) (end : Option Refused) → PlansTold g sheet (next_at sheet g.net.sites at line).at (next_at sheet g.net.sites at line).line e text end
      → PlansTold g sheet at line d (plan_line p v kept.legs ++ text) end

-- What loading the sheet comes to, with a table for so many legs.
abbrev pub load_of_sheet : ℕ → List ℕ → Load
load_of_sheet legs sheet = loaded_from legs (lines sheet)

-- The leg table after it: the legs that were read, at the front of blank ones.
abbrev pub table_of_sheet : ℕ → List ℕ → List Leg
table_of_sheet legs sheet = fronted (load_of_sheet legs sheet).legs (replicate legs no_leg)

-- The room of the batch program.
abbrev pub batch_room : Room
batch_room = record { sites = 64; legs = 256; labels = 1024 }

-- How a sheet's plans are answered with the room r, with this tally at the start: by no line where the load is refused, at the line
-- where it then stands and which it carries; else as the plans after the load are, served by the total fee at a desk of this room as
-- it is made.
pub data SheetTold (r : Room) (sheet : List ℕ) (tally : Tally) : List ℕ → Option Refused → Type 0 where
  load_refused : (why : Refusal) → (load_of_sheet r.legs sheet).outcome ≡ Err why → place_of why ≡ Some (place.Line (load_of_sheet r.legs sheet).line)
      → SheetTold r sheet tally [] (met why (load_of_sheet r.legs sheet).line)
  loaded : (net : Network) → (load_of_sheet r.legs sheet).outcome ≡ Ok net → (text : List ℕ) (end : Option Refused)
      → PlansTold (ground net (table_of_sheet r.legs sheet) total_fee (granted r.labels)) sheet (load_of_sheet r.legs sheet).at (load_of_sheet r.legs sheet).line (made r.sites (granted r.labels) tally) text end
      → SheetTold r sheet tally text end

-- The whole text: the header, the lines of the plans, and the refusal that ended them, if one did.
pub record Reports (r : Room) (sheet : List ℕ) (tally : Tally) (text : List ℕ) (end : Option Refused) : Type 0 where
  pub plans : List ℕ
  pub told : SheetTold r sheet tally plans end
  pub lines_are : text ≡ (header ++ plans) ++ end_line end
