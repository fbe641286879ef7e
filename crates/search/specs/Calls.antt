-- When the calls of a search are refused, and what they make of a worksheet. Assumes nothing.
use Rattle.std.specs.Prelude.{◌≡◌, ℕ, zero, suc, ◌+◌, ◌^◌, ◌<◌, min, Bool, false, ◌&&◌, List, [], ◌∷◌, ◌++◌, length, drop, Some, None, Ok, Err, Option, Result, ◌==◌, nat_le, nat_lt, slice_index_or, if◌then◌else◌, option_and_then}
use Rattle.network.specs.declared.estimates.Bound.{Bound}
use Rattle.network.specs.declared.legs.Leg.{Leg}
use Rattle.network.specs.declared.legs.Network.{Network}
use Rattle.network.specs.declared.refusals.Refusal.{Refusal}
use Rattle.network.specs.declared.refusals.Refusal.TheVariants as why
use Rattle.network.specs.Checks.{legs_of, first_failing, unless, unless_leg, network_refusal}
use Rattle.network.specs.Estimates.{leg_keeps_rules}
use Rattle.network.specs.Tariffs.{Terms}
use Rattle.network.specs.Walks.{graph, no_leg}
use Rattle.queue.specs.declared.entry.Entry.{Entry}
use Rattle.worksheet.specs.declared.records.Label.{Label}
use Rattle.worksheet.specs.declared.records.Origin.{Origin}
use Rattle.worksheet.specs.declared.records.Phase.{Phase}
use Rattle.worksheet.specs.declared.records.Phase.TheVariants as phase
use Rattle.worksheet.specs.declared.records.Query.{Query}
use Rattle.worksheet.specs.Problem.{Setting, Problem, problem}
use Rattle.worksheet.specs.Steps.{State, is_open, label_at, opened, step}
use Rattle.search.specs.declared.lent.Lent.{Lent}
use Rattle.search.specs.declared.record.Search.{Search}

-- What the calls alter: the question, and the state of the search for it.
pub record Worksheet : Type 0 where
  pub query : Query
  pub state : State

-- The worksheet that a search record, label records, least-delay records and a bag make.
abbrev pub worksheet : Search → List Label → List ℕ → List Entry → Worksheet
worksheet r labels least bag = record { query = r.query; state = record { labels = labels; count = r.count; least = least; bag = bag; phase = r.phase; steps = r.steps } }

-- What no call alters.
abbrev pub setting : Network → List Leg → Terms → (ℕ → Option Bound) → List Label → List ℕ → ℕ → Setting
setting net table terms at labels least room = record { net = net; table = table; terms = terms; at = at; labels = length labels; records = length least; capacity = room }

-- The same, of what a call is lent to read only, by what a tariff and an estimate mean.
abbrev pub setting_of : {T E : Type 0} → (T → Terms) → (E → ℕ → Option Bound) → Lent T E → List Label → List ℕ → ℕ → Setting
setting_of terms at lent labels least room = setting lent.network.now lent.table.now (terms lent.tariff.now) (at lent.estimate.now) labels least room

-- The problem that is being worked on.
abbrev pub problem_of : Setting → Worksheet → Problem
problem_of s w = problem s w.query

-- An answer, with the worksheet after it.
pub record Outcome (X : Type 0) : Type 0 where
  pub answer : X
  pub after : Worksheet

abbrev pub outcome : {X : Type 0} → X → Worksheet → Outcome X
outcome x w = record { answer = x; after = w }

-- 8: the limit is at most 1,000,000 microseconds.
abbrev pub limit_fits : Query → Bool
limit_fits q = nat_le q.limit 1000000

-- 10: start and goal are sites of the network.
abbrev pub ends_fit : Network → Query → Bool
ends_fit net q = nat_lt q.start net.sites && nat_lt q.goal net.sites

-- 11: there are 1 to 65,536 label records, the queue has room, and every site has a least-delay record.
abbrev pub tables_fit : ℕ → ℕ → ℕ → ℕ → Bool
tables_fit sites labels records capacity = nat_le 1 labels && (nat_le labels 65536 && (nat_le 1 capacity && nat_le sites records))

-- 12 at the goal: the pair 0 and 0.
abbrev pub is_reached : Option Bound → Bool
is_reached None = false
is_reached (Some b) = b.cost == 0 && b.delay == 0

-- 12 at a leg.
abbrev pub leg_lawful : Setting → Leg → Bool
leg_lawful s = leg_keeps_rules (graph s.terms []) s.at

-- Why an open is refused: the first number that applies, from 8 to 12.
unfoldable pub open_refusal : Setting → Query → Option Refusal
open_refusal s q =
    unless (limit_fits q) why.Size
    (network_refusal s.net s.table
    (unless (ends_fit s.net q) why.Site
    (unless (tables_fit s.net.sites s.labels s.records s.capacity) why.Room
    (unless (is_reached (s.at q.goal)) why.GoalEstimate
    (unless_leg why.LegEstimate (first_failing (leg_lawful s) 0 (legs_of s.net s.table)) None)))))

abbrev pub open_decided : Setting → Query → Option Refusal → Worksheet → Outcome (Result Unit Refusal)
open_decided s q None w = outcome (Ok tt) (record { query = q; state = opened (problem s q) w.state })
open_decided s q (Some r) w = outcome (Err r) w

-- Open: refused, it changes nothing.
abbrev pub opening : Setting → Query → Worksheet → Outcome (Result Unit Refusal)
opening s q w = open_decided s q (open_refusal s q) w

-- The estimate's cost at a site, if it has one, is a number of 64 bits.
abbrev pub CostFits : (ℕ → Option Bound) → ℕ → Type 0
CostFits at site = (h : Bound) → at site ≡ Some h → h.cost < 2 ^ 64

-- So it is at the head of every leg.
abbrev pub HeadCostsFit : (ℕ → Option Bound) → List Leg → Type 0
HeadCostsFit at legs = (j : ℕ) → j < length legs → CostFits at (slice_index_or legs j no_leg).head

-- So it is wherever a search asks for it: at the start, and at the head of every leg.
pub record CostsFit (p : Problem) : Type 0 where
  pub at_start : CostFits p.at p.start
  pub at_heads : HeadCostsFit p.at p.graph.legs

-- So many steps were made, and then the search stood so.
pub record Run : Type 0 where
  pub made : ℕ
  pub after : State

abbrev pub ran : ℕ → State → Run
ran n s = record { made = n; after = s }

-- At most k more steps, after `made` of them, while the search is open.
unfoldable pub run : Problem → ℕ → ℕ → State → Run
run p zero made s = ran made s
run p (suc k) made s = if is_open s.phase then run p k (made + 1) (step p s) else ran made s

abbrev pub run_outcome : Worksheet → Run → Outcome (Result ℕ Refusal)
run_outcome w r = outcome (Ok r.made) (record w { state = r.after })

-- Advance by an allowance of k steps: refused in a phase other than open, it changes nothing.
abbrev pub advancing : Setting → ℕ → Worksheet → Outcome (Result ℕ Refusal)
advancing s k w = if is_open w.state.phase then run_outcome w (run (problem_of s w) k 0 w.state) else outcome (Err why.NotOpen) w

-- A label's origin, unless it is absent, or its parent or leg leads outside: m legs, and a parent not below its label.
abbrev pub origin_inside : ℕ → ℕ → Option Origin → Option Origin
origin_inside m i None = None
origin_inside m i (Some o) = if (nat_lt o.parent i && nat_lt o.leg m) then Some o else None

-- The same of label i, of n labels.
abbrev pub origin_at : ℕ → ℕ → List Label → ℕ → Option Origin
origin_at m n labels i = if nat_lt i n then origin_inside m i (label_at labels i).from else None

abbrev pub at_first : ℕ → List ℕ → Option (List ℕ)
at_first n js = if nat_lt 0 n then Some js else None

abbrev pub by_origin : Option Origin → (Origin → Option (List ℕ)) → Option (List ℕ)
by_origin o go = option_and_then go o

-- The legs from label 0 to label i, before those of js, unless a number leads outside. The chain has at most as many links
-- as the fuel; i of them always suffice, since a parent stands before its label.
unfoldable pub chain_from : ℕ → ℕ → List Label → ℕ → ℕ → List ℕ → Option (List ℕ)
chain_from m n labels zero i js = at_first n js
chain_from m n labels (suc fuel) i js =
    if i == 0 then at_first n js else by_origin (origin_at m n labels i) (λ o. chain_from m n labels fuel o.parent (o.leg ∷ js))

-- The legs to label i: labels count as far as they are written and have a record, legs as far as the table has them.
abbrev pub chain : Network → List Leg → ℕ → List Label → ℕ → Option (List ℕ)
chain net table count labels i = chain_from (min net.legs (length table)) (min count (length labels)) labels i i []

-- What trace answers, and the buffer after it.
pub record Traced : Type 0 where
  pub answer : Result ℕ Refusal
  pub buffer : List ℕ

abbrev pub traced : Result ℕ Refusal → List ℕ → Traced
traced r b = record { answer = r; buffer = b }

abbrev pub chain_laid : Option (List ℕ) → List ℕ → Traced
chain_laid None b = traced (Err why.Outside) b
chain_laid (Some js) b = if nat_le (length js) (length b) then traced (Ok (length js)) (js ++ drop (length js) b) else traced (Err why.BufferShort) b

abbrev pub traced_in : Network → List Leg → ℕ → List Label → Phase → List ℕ → Traced
traced_in net table count labels (phase.Found i m) b = chain_laid (chain net table count labels i) b
traced_in net table count labels p b = traced (Err why.NotFound) b

-- Trace: the found leg numbers at the buffer's start. Refused, the buffer stays as it was: nothing was found, a number of the
-- chain leads outside, or the buffer is too short.
abbrev pub tracing : Network → List Leg → Search → List Label → List ℕ → Traced
tracing net table r labels b = traced_in net table r.count labels r.phase b
