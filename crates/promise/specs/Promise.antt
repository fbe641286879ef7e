-- What is promised of every list of calls, over the calls, their answers and the verdicts after them. Assumes nothing.
use Rattle.std.specs.Prelude.{◌≡◌, ℕ, ◌+◌, ◌-◌, ◌^◌, ◌<◌, ◌≤◌, min, ◌⊎◌, ◌↔◌, List, [], ◌∷◌, length, Some, None, Ok, Err, vec_items, Option, ◌≢◌}
use Rattle.std.specs.Global.{Vec}
use Rattle.network.specs.declared.refusals.Refusal.{Refusal}
use Rattle.network.specs.declared.refusals.Stop.{Stop}
use Rattle.network.specs.Checks.{legs_of}
use Rattle.network.specs.Refusals.{number_of, stop_number_of}
use Rattle.network.specs.Walks.{Graph, graph, walk_cost, walk_delay, Route, Cheapest}
use Rattle.worksheet.specs.declared.records.Mark.{Mark}
use Rattle.worksheet.specs.declared.records.Query.{Query}
use Rattle.worksheet.specs.Problem.{Setting, enough, RoomFor}
use Rattle.search.specs.declared.record.Standing.TheVariants.{Fresh, Open, Found, Exhausted, Stopped}
use Rattle.search.specs.declared.record.Verdict.{Verdict}
use Rattle.search.specs.Numbers.{RefusedBy, NoneApplies}
use Rattle.promise.specs.declared.calls.Answer.{Answer}
use Rattle.promise.specs.declared.calls.Answer.TheVariants.{Opened, Advanced, Told, Traced}
use Rattle.promise.specs.declared.calls.Call.{Call}
use Rattle.promise.specs.declared.calls.Call.TheVariants as call
use Rattle.promise.specs.declared.calls.Event.{Event}
use Rattle.promise.specs.History.{never_opened, verdict_after, question, allowed, searches}

-- The search has found a route.
abbrev pub HasFound : Verdict → Type 0
HasFound v = (m : Mark) × (v.standing ≡ Found m)

-- The search has ended, and was not stopped.
abbrev pub HasEnded : Verdict → Type 0
HasEnded v = HasFound v ⊎ (v.standing ≡ Exhausted)

-- How a call is answered where the verdict before it is v and the search's route is js, and which verdict stands after it.
-- These are all the ways there are, and at each call just one of them can be taken: a call is refused exactly where a number
-- applies, and by that number.
pub data Answered (s : Setting) (js : List ℕ) (v : Verdict) : Call → Answer → Verdict → Type 0 where
  -- Open is refused by the lowest number that applies, from 8 to 12, with the leg that it carries, and then changes nothing.
  open_refused : (q : Query) (why : Refusal) → RefusedBy s q why → Answered s js v (call.Open q) (Opened (Err why)) v
  -- Where none applies, the search is open and has made no step.
  opened : (q : Query) → NoneApplies s q → Answered s js v (call.Open q) (Opened (Ok tt)) (record { standing = Open; steps = 0 })
  -- Advance is refused by 13 where the search is not open, and then changes nothing.
  advance_refused : (k : ℕ) (why : Refusal) → number_of why ≡ 13 → v.standing ≢ Open → Answered s js v (call.Advance k) (Advanced (Err why)) v
  -- Where it is, n of the k allowed steps are made, at each such call anew: all of them if the search is still open then. Without
  -- a step the verdict is as it was, so that an allowance of 0 leaves the search open, and none ends but in a step. The verdict
  -- counts them on, up to 2^64 - 1.
  advanced : (k n : ℕ) (u : Verdict) → v.standing ≡ Open → n ≤ k → (u.standing ≡ Open → n ≡ k) → (n ≡ 0 → u ≡ v) → u.steps ≡ min (v.steps + n) (2 ^ 64 - 1)
      → Answered s js v (call.Advance k) (Advanced (Ok n)) u
  -- Verdict is never refused, and changes nothing.
  told : Answered s js v call.Verdict (Told v) v
  -- Trace changes nothing. It is refused by 14 where nothing is found, and by 18 where the buffer is shorter than the route.
  trace_refused : (n : ℕ) (why : Refusal) → number_of why ≡ 14 → (HasFound v → ⊥) → Answered s js v (call.Trace n) (Traced (Err why)) v
  buffer_refused : (n : ℕ) (why : Refusal) → number_of why ≡ 18 → HasFound v → n < length js → Answered s js v (call.Trace n) (Traced (Err why)) v
  -- Into a buffer that is long enough it writes the legs of the route, first to last.
  traced : (n : ℕ) (legs : Vec ℕ) → HasFound v → length js ≤ n → vec_items legs ≡ js → Answered s js v (call.Trace n) (Traced (Ok legs)) v

-- What routes are planned over: the legs of the network, under the tariff.
abbrev pub planned : Setting → Graph
planned s = graph s.terms (legs_of s.net s.table)

-- The legs js are a route for the question q: a walk from its start to its goal within its limit.
abbrev pub RouteFor : Setting → Query → List ℕ → Type 0
RouteFor s q js = Route (planned s) q.start q.goal q.limit js

-- With m legs and a limit of L, 1 + m × (L + 1) labels and as many entries are enough.
abbrev pub enough_for : Setting → Query → ℕ
enough_for s q = enough s.net.legs q.limit

-- There are label records and room in the queue for that many.
abbrev pub HasRoom : Setting → Query → Type 0
HasRoom s q = RoomFor (enough_for s q) s.labels s.capacity

-- What the verdict v tells of a search for q that was allowed n steps in all, and of its route js.
pub record Tells (s : Setting) (q : Query) (n : ℕ) (js : List ℕ) (v : Verdict) : Type 0 where
  -- Found: the route comes to the verdict's cost and delay.
  pub found_has_cost : (m : Mark) → v.standing ≡ Found m → walk_cost (planned s) js ≡ m.cost
  pub found_has_delay : (m : Mark) → v.standing ≡ Found m → walk_delay (planned s) js ≡ m.delay
  -- It is a route for this question, and the cheapest: every other costs more, or costs the same with at least its delay. So no
  -- one route serves all questions, and none is answered because it was met first.
  pub found_is_cheapest : (m : Mark) → v.standing ≡ Found m → Cheapest (planned s) q.start q.goal q.limit js
  -- A search that ended unstopped is exhausted exactly if there is no route: where there is one, it has found.
  pub exhausted_means_no_route : HasEnded v → (v.standing ≡ Exhausted) ↔ ((ks : List ℕ) → RouteFor s q ks → ⊥)
  -- Once 2 + m × (L + 1) steps in all were allowed, it is open no longer, whatever the room: a search cannot go on counting steps
  -- and come to no end.
  pub enough_steps_close : 1 + enough_for s q ≤ n → v.standing ≢ Open
  -- With enough label records it is never stopped by 16, however small the queue is, and with enough room in the queue never by
  -- 17, however few the records are. With both it is never stopped, so that after so many steps it has found or is exhausted.
  pub enough_labels : enough_for s q ≤ s.labels → (why : Stop) → v.standing ≡ Stopped why → stop_number_of why ≢ 16
  pub enough_entries : enough_for s q ≤ s.capacity → (why : Stop) → v.standing ≡ Stopped why → stop_number_of why ≢ 17
  pub enough_room_never_stops : HasRoom s q → (why : Stop) → v.standing ≢ Stopped why
  pub enough_of_both_ends : HasRoom s q → 1 + enough_for s q ≤ n → HasEnded v
  -- It never stops by 15, and a search that was opened is not fresh.
  pub never_stops_by_15 : (why : Stop) → v.standing ≡ Stopped why → stop_number_of why ≢ 15
  pub never_fresh : v.standing ≢ Fresh

-- The same by the question of the last accepted open: before the first, the verdict is that on a fresh search.
abbrev pub TellsOf : Setting → Option Query → ℕ → List ℕ → Verdict → Type 0
TellsOf s None n js v = v ≡ never_opened
TellsOf s (Some q) n js v = Tells s q n js v

-- What is promised of the event e after the events `before`, the searches having these routes by their numbers. A search's
-- route is one and the same over all its calls, so that each trace of it writes the same legs.
pub record Kept (s : Setting) (route : ℕ → List ℕ) (before : List Event) (e : Event) : Type 0 where
  pub answer_is_due : Answered s (route (searches before)) (verdict_after before) e.call e.answer e.after
  pub verdict_is_true : TellsOf s (question (e ∷ before)) (allowed (e ∷ before)) (route (searches (e ∷ before))) e.after

-- The same of every event of a history.
abbrev pub AllKept : Setting → (ℕ → List ℕ) → List Event → Type 0
AllKept s route [] = Unit {0}
AllKept s route (e ∷ before) = Kept s route before e × AllKept s route before

-- There is one route for each search with which every event is as promised.
abbrev pub Promise : Setting → List Event → Type 0
Promise s h = (route : ℕ → List ℕ) × AllKept s route h
