-- What opening a search and each of its steps make of a worksheet. Assumes nothing.
use Rattle.std.specs.Prelude.{ℕ, suc, ◌+◌, ◌-◌, ◌^◌, min, Bool, true, false, ◌&&◌, List, [], ◌∷◌, ◌++◌, length, drop, replicate, Some, None, Option, ◌==◌, nat_le, nat_lt, slice_index, slice_index_or, slice_set, if◌then◌else◌}
use Rattle.std.specs.List.{list_all}
use Rattle.network.specs.declared.estimates.Bound.{Bound}
use Rattle.network.specs.declared.legs.Leg.{Leg}
use Rattle.network.specs.declared.refusals.Stop.TheVariants.{Outside, LabelsUsed, QueueFull}
use Rattle.network.specs.Walks.{Graph}
use Rattle.queue.specs.declared.entry.Entry.{Entry}
use Rattle.queue.specs.Bag.{insert}
use Rattle.worksheet.specs.declared.records.Due.{Due}
use Rattle.worksheet.specs.declared.records.Label.{Label}
use Rattle.worksheet.specs.declared.records.Mark.{Mark}
use Rattle.worksheet.specs.declared.records.Phase.{Phase}
use Rattle.worksheet.specs.declared.records.Phase.TheVariants.{Open, Found, Exhausted, Stopped}
use Rattle.worksheet.specs.Problem.{Problem, nothing, extend}

-- What a search alters: the label records, of which `count` are written, the least-delay records, the queue's bag, the
-- phase and the number of steps.
pub record State : Type 0 where
  pub labels : List Label
  pub count : ℕ
  pub least : List ℕ
  pub bag : List Entry
  pub phase : Phase
  pub steps : ℕ

abbrev pub no_label : Label
no_label = record { mark = nothing; site = 0; from = None }

abbrev pub label_at : List Label → ℕ → Label
label_at ls i = slice_index_or ls i no_label

abbrev pub in_phase : Phase → State → State
in_phase q s = record s { phase = q }

abbrev pub with_bag : List Entry → State → State
with_bag es s = record s { bag = es }

-- The entry of label i, which is written as it is due.
abbrev pub entry_of : ℕ → Due → Entry
entry_of i d = record { estimate = d.estimate; cost = d.label.mark.cost; delay = d.label.mark.delay; label = i }

-- One label more, with its entry.
abbrev pub write : Due → State → State
write d s = record s { labels = slice_set s.labels s.count d.label; count = suc s.count; bag = insert (entry_of s.count d) s.bag }

abbrev pub is_open : Phase → Bool
is_open Open = true
is_open q = false

-- The delay is not below the site's least-delay record: dominated by a label that was taken there before, or beyond the limit.
abbrev pub dominated : List ℕ → ℕ → Mark → Bool
dominated least site m = nat_le (slice_index least site) m.delay

-- The label that leg j leads to from the site of label i.
abbrev pub child : Graph → ℕ → Label → ℕ → Leg → Label
child g i l j leg = record { mark = extend g l.mark leg; site = leg.head; from = Some (record { parent = i; leg = j }) }

-- A label whose site has the estimate h: its estimated cost is its cost joined with that of the estimate.
abbrev pub estimated : Graph → Label → Bound → Due
estimated g l h = record { label = l; estimate = g.join l.mark.cost h.cost }

-- A label is due, unless its site is cut off, its delay plus the estimated delay exceeds the limit, or it is dominated.
abbrev pub due_at : Graph → ℕ → List ℕ → Label → Option Bound → Option Due
due_at g limit least l None = None
due_at g limit least l (Some h) =
    if nat_le (l.mark.delay + h.delay) limit
    then (if dominated least l.site l.mark then None else Some (estimated g l h))
    else None

-- The child of label i that is due by leg j, if the leg leaves the label's site.
abbrev pub due_of : Graph → (ℕ → Option Bound) → ℕ → List ℕ → ℕ → Label → ℕ → Leg → Option Due
due_of g at limit least i l j leg = if leg.tail == l.site then due_at g limit least (child g i l j leg) (at leg.head) else None

-- A label that is due is written, unless no label record is left or the queue holds its capacity: that stops the search.
abbrev pub added : ℕ → Due → State → State
added capacity d s =
    if nat_lt s.count (length s.labels)
    then (if nat_lt (length s.bag) capacity then write d s else in_phase (Stopped QueueFull) s)
    else in_phase (Stopped LabelsUsed) s

-- Where none is due, nothing alters.
abbrev pub add_due : ℕ → Option Due → State → State
add_due capacity None s = s
add_due capacity (Some d) s = added capacity d s

-- Leg j is tried from label i, if the search is still open.
abbrev pub try : Problem → ℕ → Label → ℕ → Leg → State → State
try p i l j leg s = if is_open s.phase then add_due p.capacity (due_of p.graph p.at p.limit s.least i l j leg) s else s

-- The legs, numbered from j on, are tried from label i in their order.
abbrev pub expand : Problem → ℕ → Label → ℕ → List Leg → State → State
expand p i l j [] s = s
expand p i l j (leg ∷ more) s = expand p i l (suc j) more (try p i l j leg s)

-- The label's delay becomes its site's least-delay record.
abbrev pub settle : Label → State → State
settle l s = record s { least = slice_set s.least l.site l.mark.delay }

-- At the goal the search has found; elsewhere the label is expanded.
abbrev pub arrive : Problem → ℕ → Label → State → State
arrive p i l s = if l.site == p.goal then in_phase (Found i l.mark) (settle l s) else expand p i l 0 p.graph.legs (settle l s)

-- A dominated label is dropped.
abbrev pub take_new : Problem → ℕ → Label → State → State
take_new p i l s = if dominated s.least l.site l.mark then s else arrive p i l s

-- A leg has a medium and leads to a site with a least-delay record.
abbrev pub leads_inside : ℕ → Leg → Bool
leads_inside records leg = nat_lt leg.head records && nat_le leg.medium 7

-- The same, if it leaves the site.
abbrev pub leg_inside : ℕ → ℕ → Leg → Bool
leg_inside records site leg = if leg.tail == site then leads_inside records leg else true

-- No number that a step with label i uses leads outside its table: the leg table is whole, the label is written and has a
-- record, its site has a least-delay record, and every leg from there is inside.
abbrev pub inside : ℕ → Bool → List Leg → ℕ → List Label → ℕ → Bool
inside records whole legs count labels i =
    let site = (label_at labels i).site in
    (whole && (nat_lt i count && nat_lt i (length labels))) && (nat_lt site records && list_all (leg_inside records site) legs)

-- Label i, if that is so.
abbrev pub label_inside : ℕ → Bool → List Leg → ℕ → List Label → ℕ → Option Label
label_inside records whole legs count labels i = if inside records whole legs count labels i then Some (label_at labels i) else None

-- Else the search stops.
abbrev pub take_inside : Problem → ℕ → Option Label → State → State
take_inside p i None s = in_phase (Stopped Outside) s
take_inside p i (Some l) s = take_new p i l s

-- A step takes an entry; without one the search is exhausted.
abbrev pub step_from : Problem → List Entry → State → State
step_from p [] s = in_phase Exhausted s
step_from p (e ∷ es) s = take_inside p e.label (label_inside p.records p.whole p.graph.legs s.count s.labels e.label) (with_bag es s)

-- Steps are counted, up to the largest number of 64 bits.
abbrev pub tick : State → State
tick s = record s { steps = min (suc s.steps) (2 ^ 64 - 1) }

abbrev pub step : Problem → State → State
step p s = step_from p s.bag (tick s)

-- An accepted open: no label and no entry, a least delay of one more than the limit at each site, no step made.
abbrev pub bare : Problem → State → State
bare p w = record { labels = w.labels; count = 0; least = replicate p.sites (p.limit + 1) ++ drop p.sites w.least; bag = []; phase = Open; steps = 0 }

abbrev pub start_label : Problem → Label
start_label p = record { mark = nothing; site = p.start; from = None }

abbrev pub open_fit : Problem → State → Bound → Bool → State
open_fit p w h false = bare p w
open_fit p w h true = write (estimated p.graph (start_label p) h) (bare p w)

abbrev pub open_at : Problem → State → Option Bound → State
open_at p w None = bare p w
open_at p w (Some h) = open_fit p w h (nat_le h.delay p.limit)

-- Unless the start is cut off or its estimated delay exceeds the limit, label 0 is written and its entry put.
abbrev pub opened : Problem → State → State
opened p w = open_at p w (p.at p.start)
