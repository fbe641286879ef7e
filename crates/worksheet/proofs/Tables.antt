-- What holds of every series: the label table keeps its length, steps are counted, and the queue keeps to its capacity. Assumes
-- nothing.
use Rattle.std.proofs.Common.{◌≡◌, ℕ, ◌≤◌, ◌-◌, ◌^◌, min, List, length, Option, refl, ap, ◌∙◌, arith, length-set}
use Rattle.network.specs.declared.estimates.Bound.{Bound}
use Rattle.queue.proofs.Bags.{length_insert}
use Rattle.worksheet.specs.declared.records.Mark.{Mark}
use Rattle.worksheet.specs.Problem.{Problem}
use Rattle.worksheet.specs.Steps.{State, with_bag, settle, tick, step, open_at}
use Rattle.worksheet.specs.Series.{Series, begun, stepped, resumed}
use Rattle.worksheet.proofs.Ways.{label_of, Stepped, none_left, led_outside, dropped, arrived, expanded, stepped_ways}
use Rattle.worksheet.proofs.Growing.{expand_grew, expand_holds}

-- From s to t the label table is as long, and the steps are the same.
record SameSize (s t : State) : Type 0 where
  table : length t.labels ≡ length s.labels
  steps : t.steps ≡ s.steps

step_same_size : (p : Problem) (s t : State) → Stepped p s t → SameSize s t
step_same_size p s t (expanded e es q r away) =
    let g = expand_grew p e.label (label_of s e) 0 p.graph.legs (settle (label_of s e) (with_bag es s)) in
    record { table = g.table; steps = g.steps }
step_same_size p s t way = record { table = refl; steps = refl }

open_sizes : (p : Problem) (w : State) (o : Option Bound) → (length (open_at p w o).labels ≡ length w.labels) × ((open_at p w o).steps ≡ 0)
open_sizes p w o = (grind (arith, length-set), grind arith)

pub table_kept : (p : Problem) (w : State) (os : List Mark) (k : ℕ) (s : State) → Series p w os k s → length s.labels ≡ length w.labels
table_kept p w os k s begun = (open_sizes p w (p.at p.start)).0
table_kept p w os k s (stepped {k = n} {s = u} r o) = (step_same_size p (tick u) (step p u) (stepped_ways p u)).table ∙ table_kept p w os n u r
table_kept p w os k s (resumed {os = q} {s = u} i m r f) = table_kept p w q k u r

pub steps_counted : (p : Problem) (w : State) (os : List Mark) (k : ℕ) (s : State) → Series p w os k s → s.steps ≡ min k (2 ^ 64 - 1)
steps_counted p w os k s begun = (open_sizes p w (p.at p.start)).1
steps_counted p w os k s (stepped {k = n} {s = u} r o) = omega (arith, (step_same_size p (tick u) (step p u) (stepped_ways p u)).steps, steps_counted p w os n u r)
steps_counted p w os k s (resumed {os = q} {s = u} i m r f) = steps_counted p w q k u r

-- With room for an entry at all, the bag never has more entries than the queue has room for.
step_holds : (p : Problem) (s t : State) → Stepped p s t → length s.bag ≤ p.capacity → length t.bag ≤ p.capacity
step_holds p s t (none_left q) b = b
step_holds p s t (led_outside e es q f) b = omega (arith, ap length q)
step_holds p s t (dropped e es q r) b = omega (arith, ap length q)
step_holds p s t (arrived e es q r goal) b = omega (arith, ap length q)
step_holds p s t (expanded e es q r away) b = expand_holds p e.label (label_of s e) 0 p.graph.legs (settle (label_of s e) (with_bag es s)) (omega (arith, ap length q))

open_holds : (p : Problem) (w : State) (o : Option Bound) → 1 ≤ p.capacity → length (open_at p w o).bag ≤ p.capacity
open_holds p w o some = grind (arith, length_insert)

pub bag_held : (p : Problem) → 1 ≤ p.capacity → (w : State) (os : List Mark) (k : ℕ) (s : State) → Series p w os k s → length s.bag ≤ p.capacity
bag_held p some w os k s begun = open_holds p w (p.at p.start) some
bag_held p some w os k s (stepped {k = n} {s = u} r o) = step_holds p (tick u) (step p u) (stepped_ways p u) (bag_held p some w os n u r)
bag_held p some w os k s (resumed {os = q} {s = u} i m r f) = bag_held p some w q k u r
