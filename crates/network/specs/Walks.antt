-- Walks, what they cost and take, and the problem: the cheapest walk within a limit. Assumes nothing.
use Rattle.std.specs.Prelude.{◌≡◌, ℕ, ◌+◌, ◌<◌, ◌≤◌, ◌⊎◌, List, [], ◌∷◌, length, slice_index_or}
use Rattle.network.specs.declared.legs.Leg.{Leg}
use Rattle.network.specs.Legs.{leg_delay}
use Rattle.network.specs.Tariffs.{Terms}

-- What routes are planned over: the legs by their numbers, the price of each, how costs are joined, and the delay of each.
pub record Graph : Type 0 where
  pub legs : List Leg
  pub price : Leg → ℕ
  pub join : ℕ → ℕ → ℕ
  pub delay : Leg → ℕ

-- The legs of a network under a tariff.
abbrev pub graph : Terms → List Leg → Graph
graph t legs = record { legs = legs; price = λ leg. t.price leg.fee leg.grade; join = t.join; delay = leg_delay }

-- What stands beyond the end of a list of legs.
abbrev pub no_leg : Leg
no_leg = record { tail = 0; head = 0; fee = 0; grade = 0; stated = 0; medium = 0 }

abbrev pub leg_at : Graph → ℕ → Leg
leg_at g j = slice_index_or g.legs j no_leg

-- The leg numbers js are a walk from site u to site v: each leg's head is the next one's tail. Sites and legs may repeat;
-- the empty list is a walk from a site to itself.
abbrev pub Walk : Graph → ℕ → List ℕ → ℕ → Type 0
Walk g u [] v = u ≡ v
Walk g u (j ∷ js) v = (j < length g.legs) × ((leg_at g j).tail ≡ u) × Walk g (leg_at g j).head js v

-- The cost a, joined with the prices of the legs, first to last.
abbrev pub cost_on : Graph → ℕ → List ℕ → ℕ
cost_on g a [] = a
cost_on g a (j ∷ js) = cost_on g (g.join a (g.price (leg_at g j))) js

-- A walk's cost is 0 joined with its legs' prices, first to last.
abbrev pub walk_cost : Graph → List ℕ → ℕ
walk_cost g js = cost_on g 0 js

-- A walk's delay is the sum of its legs' delays.
abbrev pub walk_delay : Graph → List ℕ → ℕ
walk_delay g [] = 0
walk_delay g (j ∷ js) = g.delay (leg_at g j) + walk_delay g js

-- A walk from the start to the goal that takes at most the limit.
pub record Route (g : Graph) (start goal limit : ℕ) (js : List ℕ) : Type 0 where
  pub leads : Walk g start js goal
  pub within : walk_delay g js ≤ limit

-- The weight constrained shortest path: a route such that every other costs more, or costs the same with at least its delay.
pub record Cheapest (g : Graph) (start goal limit : ℕ) (js : List ℕ) : Type 0 where
  pub route : Route g start goal limit js
  pub best : (ks : List ℕ) → Route g start goal limit ks
      → (walk_cost g js < walk_cost g ks) ⊎ ((walk_cost g js ≡ walk_cost g ks) × (walk_delay g js ≤ walk_delay g ks))

-- Some walk from u to v has the value x, and none has less.
pub record Least (g : Graph) (value : List ℕ → ℕ) (u v x : ℕ) : Type 0 where
  pub walk : List ℕ
  pub leads : Walk g u walk v
  pub has : value walk ≡ x
  pub least : (js : List ℕ) → Walk g u js v → x ≤ value js

-- There is no walk from u to v.
abbrev pub NoWalk : Graph → ℕ → ℕ → Type 0
NoWalk g u v = (js : List ℕ) → Walk g u js v → ⊥
