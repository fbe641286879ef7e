-- Walks over legs in range under a lawful tariff: their costs fit 64 bits, and costs and delays come from the first leg on. Assumes nothing.
use Rattle.std.proofs.Common.{◌≡◌, ℕ, ◌+◌, ◌^◌, ◌<◌, ◌≤◌, true, List, [], ◌∷◌, length, get_or, sym, refl, ap, ◌∙◌, arith}
use Rattle.network.specs.declared.legs.Leg.{Leg}
use Rattle.network.specs.declared.legs.Network.{Network}
use Rattle.network.specs.Legs.{leg_in_range}
use Rattle.network.specs.Tariffs.{Terms, Lawful}
use Rattle.network.specs.Walks.{Graph, graph, no_leg, leg_at, Walk, cost_on, walk_cost, walk_delay}
use Rattle.network.specs.Checks.{legs_of}
use Rattle.network.proofs.Ranges.{ranges}
use Rattle.network.proofs.Delays.{leg_delay_bounded}
use Rattle.network.proofs.Checking.{Sound}

-- what proofs about walks use of a graph over n sites: the legs lead between them, their prices fit 64 bits, their delays
-- are bounded, and joining keeps the laws
pub record Regular (g : Graph) (n : ℕ) : Type 0 where
  pub tails : (j : ℕ) → j < length g.legs → (leg_at g j).tail < n
  pub heads : (j : ℕ) → j < length g.legs → (leg_at g j).head < n
  pub prices : (j : ℕ) → j < length g.legs → g.price (leg_at g j) < 2 ^ 64
  pub delays : (j : ℕ) → j < length g.legs → g.delay (leg_at g j) ≤ 4000000
  pub joins : (a b : ℕ) → a < 2 ^ 64 → b < 2 ^ 64 → g.join a b < 2 ^ 64
  pub zero_left : (a : ℕ) → a < 2 ^ 64 → g.join 0 a ≡ a
  pub zero_right : (a : ℕ) → a < 2 ^ 64 → g.join a 0 ≡ a
  pub associative : (a b c : ℕ) → a < 2 ^ 64 → b < 2 ^ 64 → c < 2 ^ 64 → g.join (g.join a b) c ≡ g.join a (g.join b c)
  pub ordered_left : (a b c : ℕ) → a ≤ b → b < 2 ^ 64 → c < 2 ^ 64 → g.join a c ≤ g.join b c
  pub ordered_right : (a b c : ℕ) → a ≤ b → b < 2 ^ 64 → c < 2 ^ 64 → g.join c a ≤ g.join c b

-- legs in range under a lawful tariff make such a graph
pub regular : (t : Terms) (legs : List Leg) (n : ℕ) → Lawful t → ((j : ℕ) → j < length legs → leg_in_range n (get_or legs j no_leg) ≡ true) → Regular (graph t legs) n
regular t legs n lawful in_range = record {
  tails = λ j h. (ranges n (get_or legs j no_leg) (in_range j h)).tail;
  heads = λ j h. (ranges n (get_or legs j no_leg) (in_range j h)).head;
  prices = λ j h.
      let r = ranges n (get_or legs j no_leg) (in_range j h) in
      lawful.prices (get_or legs j no_leg).fee (get_or legs j no_leg).grade (omega (arith, r.fee)) (omega (arith, r.grade));
  delays = λ j h. leg_delay_bounded n (get_or legs j no_leg) (in_range j h);
  joins = lawful.joins;
  zero_left = lawful.zero_left;
  zero_right = lawful.zero_right;
  associative = lawful.associative;
  ordered_left = lawful.ordered_left;
  ordered_right = lawful.ordered_right;
}

-- and so does a network that passes its tests
pub network_regular : (t : Terms) (net : Network) (table : List Leg) → Lawful t → Sound net table → Regular (graph t (legs_of net table)) net.sites
network_regular t net table lawful sound = regular t (legs_of net table) net.sites lawful (λ j h. sound.in_range j no_leg h)

module _ (g : Graph) (n : ℕ) (reg : Regular g n) where
  cost_on_fits : (u v a : ℕ) (js : List ℕ) → Walk g u js v → a < 2 ^ 64 → cost_on g a js < 2 ^ 64
  cost_on_fits u v a [] w h = h
  cost_on_fits u v a (j ∷ js) w h = cost_on_fits (leg_at g j).head v (g.join a (g.price (leg_at g j))) js w.2 (reg.joins a (g.price (leg_at g j)) h (reg.prices j w.0))

  -- a walk's cost fits 64 bits
  pub walk_cost_fits : (u v : ℕ) (js : List ℕ) → Walk g u js v → walk_cost g js < 2 ^ 64
  walk_cost_fits u v js w = cost_on_fits u v 0 js w (omega arith)

  -- the cost on from a is a joined with the cost of the walk, by associativity
  pub cost_on_joins : (u v a : ℕ) (js : List ℕ) → Walk g u js v → a < 2 ^ 64 → cost_on g a js ≡ g.join a (walk_cost g js)
  cost_on_joins u v a [] w h = sym (reg.zero_right a h)
  cost_on_joins u v a (j ∷ js) w h =
      let q = g.price (leg_at g j) in
      let hq = reg.prices j w.0 in
      let head = (leg_at g j).head in
      let from_zero : cost_on g (g.join 0 q) js ≡ g.join q (walk_cost g js) = cost_on_joins head v (g.join 0 q) js w.2 (reg.joins 0 q (omega arith) hq) ∙ ap (λ x. g.join x (walk_cost g js)) (reg.zero_left q hq) in
      cost_on_joins head v (g.join a q) js w.2 (reg.joins a q h hq)
      ∙ reg.associative a q (walk_cost g js) h hq (walk_cost_fits head v js w.2)
      ∙ ap (λ x. g.join a x) (sym from_zero)

  -- a walk's cost is the price of its first leg joined with the cost of the rest
  pub walk_cost_first : (u v j : ℕ) (js : List ℕ) → Walk g u (j ∷ js) v → walk_cost g (j ∷ js) ≡ g.join (g.price (leg_at g j)) (walk_cost g js)
  walk_cost_first u v j js w =
      let q = g.price (leg_at g j) in
      let hq = reg.prices j w.0 in
      ap (λ x. cost_on g x js) (reg.zero_left q hq) ∙ cost_on_joins (leg_at g j).head v q js w.2 hq

-- a walk's delay is the delay of its first leg plus the delay of the rest
pub walk_delay_first : (g : Graph) (j : ℕ) (js : List ℕ) → walk_delay g (j ∷ js) ≡ g.delay (leg_at g j) + walk_delay g js
walk_delay_first g j js = refl
