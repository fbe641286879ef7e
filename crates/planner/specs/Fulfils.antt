-- What a served plan is promised, over walks. Assumes nothing.
use Rattle.std.specs.Prelude.{◌≡◌, ℕ, ◌+◌, ◌<◌, ◌≤◌, List, length, Some, ◌≢◌}
use Rattle.network.specs.declared.plans.Plan.{Plan}
use Rattle.network.specs.declared.refusals.Stop.{Stop}
use Rattle.network.specs.Checks.{legs_of}
use Rattle.network.specs.Walks.{Graph, graph, walk_cost, walk_delay, Route, Cheapest}
use Rattle.worksheet.specs.declared.records.Mark.{Mark}
use Rattle.worksheet.specs.Problem.{enough, RoomFor}
use Rattle.worksheet.specs.Series.{Full}
use Rattle.search.specs.declared.record.Standing.TheVariants.{Fresh, Open, Found, Exhausted, Stopped}
use Rattle.search.specs.declared.record.Verdict.{Verdict}
use Rattle.search.specs.Record.{search_of}
use Rattle.search.specs.Calls.{tracing, chain_laid}
use Rattle.promise.specs.Promise.{HasEnded}
use Rattle.planner.specs.Tallies.{left_for}
use Rattle.planner.specs.Serves.{Ground, Desk}

-- What routes are planned over.
abbrev pub roads : Ground → Graph
roads g = graph g.terms (legs_of g.net g.table)

-- There is room for 1 + m × (L + 1) labels and as many entries, with m legs and a limit of L.
abbrev pub HasRoom : Ground → Plan → Desk → Type 0
HasRoom g p d = RoomFor (enough g.net.legs p.limit) (length d.sheet.state.labels) g.capacity

-- What the verdict v on the plan p means, where the desk was d and is e.
pub record Fulfils (g : Ground) (p : Plan) (d : Desk) (v : Verdict) (e : Desk) : Type 0 where
  -- The legs of the route, if one is found.
  pub legs : List ℕ
  -- Found: they are the cheapest route, and of those the fastest, they come to the verdict's cost and delay, and they are what
  -- trace writes into every buffer that is long enough, as one with a record for each label is.
  pub found_is_cheapest : (m : Mark) → v.standing ≡ Found m → Cheapest (roads g) p.start p.goal p.limit legs
  pub found_has_cost : (m : Mark) → v.standing ≡ Found m → walk_cost (roads g) legs ≡ m.cost
  pub found_has_delay : (m : Mark) → v.standing ≡ Found m → walk_delay (roads g) legs ≡ m.delay
  pub found_is_traced : (m : Mark) → v.standing ≡ Found m → (b : List ℕ) → tracing g.net g.table (search_of e.sheet) e.sheet.state.labels b ≡ chain_laid (Some legs) b
  pub found_is_short : (m : Mark) → v.standing ≡ Found m → length legs < length d.sheet.state.labels
  -- Exhausted: the plan has no route, that is, no walk from its start to its goal within its limit.
  pub exhausted_means_no_route : v.standing ≡ Exhausted → (js : List ℕ) → Route (roads g) p.start p.goal p.limit js → ⊥
  -- Open: all steps that were left are made, and none is left.
  pub open_means_all_spent : v.standing ≡ Open → (v.steps ≡ left_for d.tally p.broker) × (left_for e.tally p.broker ≡ 0)
  -- Stopped: a table is full. No number leads outside its table.
  pub stopped_means_full : (why : Stop) → v.standing ≡ Stopped why → Full g.capacity e.sheet.state why
  -- With 2 + m × (L + 1) steps left it is not open, whatever the room. With enough room it is never stopped, so that with both it ends.
  pub enough_steps_close : 1 + enough g.net.legs p.limit ≤ left_for d.tally p.broker → v.standing ≢ Open
  pub enough_room_never_stops : HasRoom g p d → (why : Stop) → v.standing ≢ Stopped why
  pub enough_of_both_ends : HasRoom g p d → 1 + enough g.net.legs p.limit ≤ left_for d.tally p.broker → HasEnded v
  -- A plan that was served has been searched for, and the steps of the search, no more than were left, are what the tally lost.
  pub never_fresh : v.standing ≢ Fresh
  pub steps_come_off : left_for e.tally p.broker + v.steps ≡ left_for d.tally p.broker
