-- What passing over the legs makes of the two tables. Assumes nothing.
use Rattle.std.specs.Prelude.{ℕ, ◌+◌, min, Bool, false, ◌&&◌, ◌||◌, List, [], ◌∷◌, nat_lt, slice_index, slice_index_or, slice_set, if◌then◌else◌}
use Rattle.std.specs.Ordering.{is_lt}
use Rattle.std.specs.declared.cmp.Ordering.{Ordering}
use Rattle.network.specs.declared.legs.Leg.{Leg}
use Rattle.network.specs.Walks.{Graph}
use Rattle.reach.specs.Reaches.{largest_delay}

-- The two tables, by site.
pub record Tables : Type 0 where
  pub costs : List ℕ
  pub delays : List ℕ

-- The cost and the delay of a leg's tail by way of its head. The leg's price joins on the left of the head's cost.
abbrev pub cost_by : Graph → Leg → Tables → ℕ
cost_by g leg t = g.join (g.price leg) (slice_index t.costs leg.head)

abbrev pub delay_by : Graph → Leg → Tables → ℕ
delay_by g leg t = g.delay leg + slice_index t.delays leg.head

-- A walk from the leg's head to the goal has been met.
abbrev pub head_met : Leg → Tables → Bool
head_met leg t = nat_lt (slice_index t.delays leg.head) largest_delay

-- Record i is lowered to the value, where that is less.
abbrev pub lowered : List ℕ → ℕ → ℕ → List ℕ
lowered xs i value = slice_set xs i (min (slice_index xs i) value)

abbrev pub lowers : List ℕ → ℕ → ℕ → Bool
lowers xs i value = nat_lt value (slice_index xs i)

-- The same by an order of the records.
abbrev pub lowers_by : {N : Type 0} → (N → N → Ordering) → List N → ℕ → N → Bool
lowers_by cmp xs i value = is_lt (cmp value (slice_index_or xs i value))

abbrev pub lowered_by : {N : Type 0} → (N → N → Ordering) → List N → ℕ → N → List N
lowered_by cmp xs i value = if lowers_by cmp xs i value then slice_set xs i value else xs

-- The tables after one leg: where a walk from its head has been met, the records of its tail are lowered by way of its head.
abbrev pub relaxed : Graph → Leg → Tables → Tables
relaxed g leg t =
    if head_met leg t
    then record { costs = lowered t.costs leg.tail (cost_by g leg t); delays = lowered t.delays leg.tail (delay_by g leg t) }
    else t

-- One leg lowers a record.
abbrev pub relaxes : Graph → Leg → Tables → Bool
relaxes g leg t = head_met leg t && (lowers t.delays leg.tail (delay_by g leg t) || lowers t.costs leg.tail (cost_by g leg t))

-- The tables after one leg and the next, and so on.
unfoldable pub passed : Graph → List Leg → Tables → Tables
passed g [] t = t
passed g (leg ∷ legs) t = passed g legs (relaxed g leg t)

-- One of the legs, taken one after the other, lowers a record.
unfoldable pub changes : Graph → List Leg → Tables → Bool
changes g [] t = false
changes g (leg ∷ legs) t = relaxes g leg t || changes g legs (relaxed g leg t)
