-- What a reach answers and writes: the least cost and the least delay to a goal over all walks. Assumes nothing.
use Rattle.std.specs.Prelude.{◌≡◌, ℕ, ◌<◌, Bool, ◌&&◌, List, drop, Some, None, Option, nat_le, nat_lt, slice_index}
use Rattle.network.specs.declared.estimates.Bound.{Bound}
use Rattle.network.specs.declared.legs.Leg.{Leg}
use Rattle.network.specs.declared.legs.Network.{Network}
use Rattle.network.specs.declared.refusals.Refusal.{Refusal}
use Rattle.network.specs.declared.refusals.Refusal.TheVariants as why
use Rattle.network.specs.Checks.{network_refusal, unless}
use Rattle.network.specs.Walks.{Graph, walk_cost, walk_delay, Least, NoWalk}

-- Each table has a record for every site.
abbrev pub tables_hold : ℕ → ℕ → ℕ → Bool
tables_hold sites costs delays = nat_le sites costs && nat_le sites delays

-- A reach is refused by the network and its leg table, then by a goal that is no site, then by a table too short.
abbrev pub reach_refusal : Network → List Leg → ℕ → ℕ → ℕ → Option Refusal
reach_refusal net table goal costs delays =
    network_refusal net table
    (unless (nat_lt goal net.sites) why.Site
    (unless (tables_hold net.sites costs delays) why.Room None))

-- The largest cost and the largest delay: the records of a site from which no walk leads to the goal.
abbrev pub largest_cost : ℕ
largest_cost = 18446744073709551615

abbrev pub largest_delay : ℕ
largest_delay = 4294967295

-- The cost and the delay are the records of site u towards the goal. Reached: the least cost and, by itself, the least
-- delay of all walks from u to the goal, the delay below the largest. Cut off: there is no walk, and both are the largest.
pub data Nearest (g : Graph) (u goal cost delay : ℕ) : Type 0 where
  reached : Least g (walk_cost g) u goal cost → Least g (walk_delay g) u goal delay → delay < largest_delay → Nearest g u goal cost delay
  cut_off : NoWalk g u goal → cost ≡ largest_cost → delay ≡ largest_delay → Nearest g u goal cost delay

-- The tables costs and delays have become costs' and delays': the first n records are nearest, and the others stay.
pub record Written (g : Graph) (n goal : ℕ) (costs delays costs' delays' : List ℕ) : Type 0 where
  pub nearest : (u : ℕ) → u < n → Nearest g u goal (slice_index costs' u) (slice_index delays' u)
  pub other_costs : drop n costs' ≡ drop n costs
  pub other_delays : drop n delays' ≡ drop n delays

-- The least cost and, by itself, the least delay of all walks from u to v; none where there is no walk.
abbrev pub Between : Graph → ℕ → ℕ → Option Bound → Type 0
Between g u v None = NoWalk g u v
Between g u v (Some b) = Least g (walk_cost g) u v b.cost × Least g (walk_delay g) u v b.delay
