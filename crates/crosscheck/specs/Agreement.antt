-- When what a search came to agrees with the second implementation, and keeps to its room and steps. Assumes nothing.
use Rattle.std.specs.Prelude.{◌≡◌, ℕ, ◌+◌, ◌-◌, ◌*◌, ◌^◌, ◌<◌, ◌≤◌, min, List, Some, None, vec_items}
use Rattle.network.specs.declared.refusals.Stop.{Stop}
use Rattle.network.specs.declared.refusals.Stop.TheVariants.{Outside, LabelsUsed, QueueFull}
use Rattle.network.specs.Walks as walks
use Rattle.network.specs.Walks.{Walk, walk_cost, walk_delay}
use Rattle.network.specs.declared.estimates.Reached.{Reached}
use Rattle.worksheet.specs.declared.records.Mark.{Mark}
use Rattle.worksheet.specs.Problem.{enough}
use Rattle.search.specs.declared.record.Standing.{Standing}
use Rattle.search.specs.declared.record.Standing.TheVariants as standing
use Rattle.crosscheck.specs.declared.draws.Question.{Question}
use Rattle.crosscheck.specs.declared.runs.Means.{Means}
use Rattle.crosscheck.specs.declared.runs.Outcome.{Outcome}
use Rattle.crosscheck.specs.declared.second.Figures.{Figures}
use Rattle.crosscheck.specs.declared.second.Graph.{Graph}
use Rattle.crosscheck.specs.declared.tasks.Nearest.{Nearest}
use Rattle.crosscheck.specs.declared.tasks.Task.{Task}
use Rattle.crosscheck.specs.Rates.{terms_of}

-- So many labels and entries, and so many steps, are enough for a question.
abbrev pub enough_room : Question → ℕ
enough_room q = enough q.network.legs q.query.limit

abbrev pub enough_steps : Question → ℕ
enough_steps q = 1 + enough_room q

-- The steps that are allowed in all.
abbrev pub allowed : Means → ℕ
allowed m = m.advances * m.allowance

-- A label's cost and delay.
abbrev pub figures_of : Mark → Figures
figures_of m = record { cost = m.cost; delay = m.delay }

-- The legs of a graph, priced by its rate.
abbrev pub priced : Graph → walks.Graph
priced g = walks.graph (terms_of g.rate) g.legs.now

-- The legs with these numbers are a walk from u to v, and come to these figures; the delay stays at the largest number of 64 bits
-- once there.
pub record WalkWith (g : walks.Graph) (u v : ℕ) (numbers : List ℕ) (f : Figures) : Type 0 where
  pub leads : Walk g u numbers v
  pub costs : walk_cost g numbers ≡ f.cost
  pub takes : min (walk_delay g numbers) (2 ^ 64 - 1) ≡ f.delay

-- A route that was found is a walk from start to goal with its figures, and those are the ones of the cheapest.
pub record RouteAgrees (t : Task) (m : Mark) (route : List ℕ) : Type 0 where
  pub is_cheapest : t.cheapest ≡ Some (figures_of m)
  pub is_walk : WalkWith (priced t.graph) t.question.now.query.start t.question.now.query.goal route (figures_of m)

-- A search is stopped only where there is not enough of what was used up.
abbrev pub MayStop : Question → Means → Stop → Type 0
MayStop q m Outside = ⊥
MayStop q m LabelsUsed = m.labels < enough_room q
MayStop q m QueueFull = m.entries < enough_room q

-- A search that was opened is found with the cheapest route, exhausted where there is none, stopped where it may be, or open after
-- all steps that it was allowed, which are not enough.
abbrev pub StandingAgrees : Task → Means → ℕ → List ℕ → Standing → Type 0
StandingAgrees t m steps route standing.Fresh = ⊥
StandingAgrees t m steps route standing.Open = (steps ≡ allowed m) × (allowed m < enough_steps t.question.now)
StandingAgrees t m steps route (standing.Found mark) = RouteAgrees t mark route
StandingAgrees t m steps route standing.Exhausted = t.cheapest ≡ None
StandingAgrees t m steps route (standing.Stopped why) = MayStop t.question.now m why

-- What a search came to agrees: its steps are those that its advances answered, no more than were allowed, and so does its verdict.
pub record Agrees (t : Task) (m : Means) (o : Outcome) : Type 0 where
  pub counted : o.answered ≡ o.verdict.steps
  pub few : o.verdict.steps ≤ allowed m
  pub standing : StandingAgrees t m o.verdict.steps (vec_items o.route) o.verdict.standing

-- Reach's tables hold what is expected of every site, and nothing else.
abbrev pub TablesAgree : Nearest → Reached → Type 0
TablesAgree n r = (vec_items n.costs ≡ r.costs.now) × (vec_items n.delays ≡ r.delays.now)
