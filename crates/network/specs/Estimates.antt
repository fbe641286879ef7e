-- Estimates: what the delivered ones mean, and when an estimate is lawful. Assumes nothing.
use Rattle.std.specs.Prelude.{◌≡◌, ℕ, ◌+◌, ◌<◌, Bool, true, false, not, ◌&&◌, List, length, Some, None, Option, ◌==◌, nat_le, nat_lt, slice_index, if◌then◌else◌}
use Rattle.network.specs.declared.legs.Leg.{Leg}
use Rattle.network.specs.declared.estimates.Bound.{Bound}
use Rattle.network.specs.Walks.{Graph, leg_at}

-- Nothing left to pay and nothing left to wait.
abbrev pub nothing_left : Bound
nothing_left = record { cost = 0; delay = 0 }

-- The blank estimate.
abbrev pub blank_at : ℕ → Option Bound
blank_at site = Some nothing_left

-- The estimate that two tables make. The delay 4,294,967,295 marks a site that is cut off, and so is a site beyond either table.
abbrev pub tables_at : List ℕ → List ℕ → ℕ → Option Bound
tables_at costs delays site =
    if (nat_lt site (length costs) && (nat_lt site (length delays) && not (slice_index delays site == 4294967295)))
    then Some (record { cost = slice_index costs site; delay = slice_index delays site }) else None

-- The rules for a leg, by what the estimate has at its tail and at its head. If its tail is cut off, its head is. If both
-- have pairs, the tail's cost is at most the leg's price joined with the head's cost, and the tail's delay at most the
-- leg's delay plus the head's.
abbrev pub ends_keep_rules : Graph → Leg → Option Bound → Option Bound → Bool
ends_keep_rules g leg None None = true
ends_keep_rules g leg None (Some h) = false
ends_keep_rules g leg (Some t) None = true
ends_keep_rules g leg (Some t) (Some h) = nat_le t.cost (g.join (g.price leg) h.cost) && nat_le t.delay (g.delay leg + h.delay)

abbrev pub leg_keeps_rules : Graph → (ℕ → Option Bound) → Leg → Bool
leg_keeps_rules g at leg = ends_keep_rules g leg (at leg.tail) (at leg.head)

-- The estimate is lawful towards the goal: the goal has the pair 0 and 0, and every leg keeps the rules.
pub record LawfulTowards (g : Graph) (at : ℕ → Option Bound) (goal : ℕ) : Type 0 where
  pub goal_is_reached : at goal ≡ Some nothing_left
  pub legs_keep_rules : (j : ℕ) → j < length g.legs → leg_keeps_rules g at (leg_at g j) ≡ true
