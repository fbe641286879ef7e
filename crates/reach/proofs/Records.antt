-- What the records of a site towards a goal tell. Assumes nothing.
use Rattle.std.proofs.Common.{◌≡◌, ℕ, ◌<◌, ◌≤◌, List, [], refl, arith}
use Rattle.network.specs.Walks.{Graph, Walk, walk_cost, walk_delay, Least, NoWalk}
use Rattle.reach.specs.Reaches.{largest_delay, Nearest, reached, cut_off}

module _ (g : Graph) (u goal c d : ℕ) where
  -- a delay below the largest: the least cost and the least delay
  pub least_cost : Nearest g u goal c d → d < largest_delay → Least g (walk_cost g) u goal c
  least_cost (reached a b l) h = a
  least_cost (cut_off none ec ed) h = absurd (omega arith)

  pub least_delay : Nearest g u goal c d → d < largest_delay → Least g (walk_delay g) u goal d
  least_delay (reached a b l) h = b
  least_delay (cut_off none ec ed) h = absurd (omega arith)

  -- the largest delay: no walk
  pub cut_off_has_no_walk : Nearest g u goal c d → largest_delay ≤ d → NoWalk g u goal
  cut_off_has_no_walk (reached a b l) h = absurd (omega arith)
  cut_off_has_no_walk (cut_off none ec ed) h = none

  pub delay_at_most_largest : Nearest g u goal c d → d ≤ largest_delay
  delay_at_most_largest (reached a b l) = omega arith
  delay_at_most_largest (cut_off none ec ed) = omega arith

  -- a walk to the goal shows that the site is reached, and comes to no less than its records
  pub walk_reaches : Nearest g u goal c d → (js : List ℕ) → Walk g u js goal → d < largest_delay
  walk_reaches (reached a b l) js w = l
  walk_reaches (cut_off none ec ed) js w = absurd (none js w)

  pub walk_costs_no_less : Nearest g u goal c d → (js : List ℕ) → Walk g u js goal → c ≤ walk_cost g js
  walk_costs_no_less (reached a b l) js w = a.least js w
  walk_costs_no_less (cut_off none ec ed) js w = absurd (none js w)

  pub walk_takes_no_less : Nearest g u goal c d → (js : List ℕ) → Walk g u js goal → d ≤ walk_delay g js
  walk_takes_no_less (reached a b l) js w = b.least js w
  walk_takes_no_less (cut_off none ec ed) js w = absurd (none js w)

-- the goal's own records are 0, by the walk of no leg
pub goal_is_nearest : (g : Graph) (goal c d : ℕ) → Nearest g goal goal c d → (c ≡ 0) × (d ≡ 0)
goal_is_nearest g goal c d near = (omega (arith, walk_costs_no_less g goal goal c d near [] refl), omega (arith, walk_takes_no_less g goal goal c d near [] refl))

-- a site has one pair of records
pub nearest_is_unique : (g : Graph) (u goal c d c' d' : ℕ) → Nearest g u goal c d → Nearest g u goal c' d' → (c ≡ c') × (d ≡ d')
nearest_is_unique g u goal c d c' d' (reached a b l) (reached a' b' l') = (
  omega (arith, a.least a'.walk a'.leads, a'.least a.walk a.leads, a.has, a'.has),
  omega (arith, b.least b'.walk b'.leads, b'.least b.walk b.leads, b.has, b'.has),
)
nearest_is_unique g u goal c d c' d' (reached a b l) (cut_off none ec ed) = absurd (none a.walk a.leads)
nearest_is_unique g u goal c d c' d' (cut_off none ec ed) (reached a b l) = absurd (none a.walk a.leads)
nearest_is_unique g u goal c d c' d' (cut_off none ec ed) (cut_off none' ec' ed') = (cc, cc)
