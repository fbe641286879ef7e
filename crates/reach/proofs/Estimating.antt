-- Tables that are nearest make a lawful estimate, whatever code wrote them. Assumes nothing.
use Rattle.std.proofs.Common.{◌≡◌, ℕ, ◌+◌, ◌<◌, ◌≤◌, true, ◌⊎◌, List, ◌∷◌, length, get_or, Some, None, Option, sym, refl, ap, ◌∙◌, subst, inl, inr, arith}
use Rattle.std.proofs.lemmas.Bool.{cases_lt, and_from, le-leb}
use Rattle.std.proofs.lemmas.Bool.Decides.{nat_tests}
use Rattle.network.specs.declared.legs.Leg.{Leg}
use Rattle.network.specs.declared.estimates.Bound.{Bound}
use Rattle.network.specs.Walks.{Graph, leg_at}
use Rattle.network.specs.Estimates.{tables_at, ends_keep_rules, leg_keeps_rules, LawfulTowards}
use Rattle.network.proofs.Walking.{Regular, walk_cost_first, walk_delay_first}
use Rattle.reach.specs.Reaches.{largest_delay, Nearest, Between}
use Rattle.reach.proofs.Records.{least_cost, least_delay, cut_off_has_no_walk, delay_at_most_largest, walk_reaches, walk_costs_no_less, walk_takes_no_less, goal_is_nearest}

-- the estimate at a site of both tables: the pair of its records where it is reached, and none where it is cut off
module _ (costs delays : List ℕ) (u : ℕ) where
  pub estimate_at_reached : u < length costs → u < length delays → get_or delays u 0 < largest_delay
      → tables_at costs delays u ≡ Some (record { cost = get_or costs u 0; delay = get_or delays u 0 })
  estimate_at_reached hc hd h = grind (arith, nat_tests)

  pub estimate_at_cut_off : get_or delays u 0 ≡ largest_delay → tables_at costs delays u ≡ None
  estimate_at_cut_off h = grind (arith, nat_tests)

-- where the records of the site are nearest, its estimate is the least cost and the least delay, or none for no walk
pub estimate_is_between : (g : Graph) (u goal : ℕ) (costs delays : List ℕ) → u < length costs → u < length delays → Nearest g u goal (get_or costs u 0) (get_or delays u 0) → Between g u goal (tables_at costs delays u)
estimate_is_between g u goal costs delays hc hd near =
    elim (cases_lt (get_or delays u 0) largest_delay) [
      | inl met ↦ subst (Between g u goal) (sym (estimate_at_reached costs delays u hc hd met)) (least_cost g u goal _ _ near met, least_delay g u goal _ _ near met)
      | inr cut ↦
          let whole : get_or delays u 0 ≡ largest_delay = omega (arith, delay_at_most_largest g u goal _ _ near) in
          subst (Between g u goal) (sym (estimate_at_cut_off costs delays u whole)) (cut_off_has_no_walk g u goal _ _ near cut)
    ]

module _ (g : Graph) (n goal : ℕ) (reg : Regular g n) (costs delays : List ℕ) (nearest : (u : ℕ) → u < n → Nearest g u goal (get_or costs u 0) (get_or delays u 0)) where
  -- a leg before the least walk from its head is a walk from its tail, which comes to no less than the tail's records
  module _ (j : ℕ) (here : j < length g.legs) (met : get_or delays (leg_at g j).head 0 < largest_delay) where
    tail_near : Nearest g (leg_at g j).tail goal (get_or costs (leg_at g j).tail 0) (get_or delays (leg_at g j).tail 0)
    tail_near = nearest (leg_at g j).tail (reg.tails j here)

    head_near : Nearest g (leg_at g j).head goal (get_or costs (leg_at g j).head 0) (get_or delays (leg_at g j).head 0)
    head_near = nearest (leg_at g j).head (reg.heads j here)

    tail_met : get_or delays (leg_at g j).tail 0 < largest_delay
    tail_met =
        let w = least_cost g (leg_at g j).head goal _ _ head_near met in
        walk_reaches g (leg_at g j).tail goal _ _ tail_near (j ∷ w.walk) (here, refl, w.leads)

    cost_kept : get_or costs (leg_at g j).tail 0 ≤ g.join (g.price (leg_at g j)) (get_or costs (leg_at g j).head 0)
    cost_kept =
        let w = least_cost g (leg_at g j).head goal _ _ head_near met in
        let le = walk_costs_no_less g (leg_at g j).tail goal _ _ tail_near (j ∷ w.walk) (here, refl, w.leads) in
        let e = walk_cost_first g n reg (leg_at g j).tail goal j w.walk (here, refl, w.leads) ∙ ap (λ x. g.join (g.price (leg_at g j)) x) w.has in
        omega arith

    delay_kept : get_or delays (leg_at g j).tail 0 ≤ g.delay (leg_at g j) + get_or delays (leg_at g j).head 0
    delay_kept =
        let w = least_delay g (leg_at g j).head goal _ _ head_near met in
        omega (arith, walk_takes_no_less g (leg_at g j).tail goal _ _ tail_near (j ∷ w.walk) (here, refl, w.leads), walk_delay_first g j w.walk, w.has)

  module _ (in_costs : n ≤ length costs) (in_delays : n ≤ length delays) where
    at_reached : (u : ℕ) → u < n → get_or delays u 0 < largest_delay → tables_at costs delays u ≡ Some (record { cost = get_or costs u 0; delay = get_or delays u 0 })
    at_reached u h = estimate_at_reached costs delays u (omega arith) (omega arith)

    at_cut_off : (u : ℕ) → u < n → largest_delay ≤ get_or delays u 0 → tables_at costs delays u ≡ None
    at_cut_off u h l = estimate_at_cut_off costs delays u (omega (arith, delay_at_most_largest g u goal _ _ (nearest u h)))

    -- the rules of a leg, by what the estimate has at its two ends
    by_ends : (leg : Leg) (x y a b : Option Bound) → x ≡ a → y ≡ b → ends_keep_rules g leg a b ≡ true → ends_keep_rules g leg x y ≡ true
    by_ends leg x y a b e f r = (λ i. ends_keep_rules g leg (e i) (f i)) ∙ r

    leg_keeps : (j : ℕ) → j < length g.legs
        → (get_or delays (leg_at g j).tail 0 < largest_delay) ⊎ (largest_delay ≤ get_or delays (leg_at g j).tail 0)
        → (get_or delays (leg_at g j).head 0 < largest_delay) ⊎ (largest_delay ≤ get_or delays (leg_at g j).head 0)
        → leg_keeps_rules g (tables_at costs delays) (leg_at g j) ≡ true
    leg_keeps j here (inl x) (inl y) =
        by_ends (leg_at g j) _ _ _ _ (at_reached (leg_at g j).tail (reg.tails j here) x) (at_reached (leg_at g j).head (reg.heads j here) y)
        (and_from _ _ (le-leb _ _ (cost_kept j here y)) (le-leb _ _ (delay_kept j here y)))
    leg_keeps j here (inl x) (inr y) =
        by_ends (leg_at g j) _ _ _ _ (at_reached (leg_at g j).tail (reg.tails j here) x) (at_cut_off (leg_at g j).head (reg.heads j here) y) refl
    leg_keeps j here (inr x) (inl y) = absurd (omega (arith, tail_met j here y))
    leg_keeps j here (inr x) (inr y) =
        by_ends (leg_at g j) _ _ _ _ (at_cut_off (leg_at g j).tail (reg.tails j here) x) (at_cut_off (leg_at g j).head (reg.heads j here) y) refl

    pub nearest_is_lawful : goal < n → LawfulTowards g (tables_at costs delays) goal
    nearest_is_lawful is_site =
        let z = goal_is_nearest g goal _ _ (nearest goal is_site) in
        record {
          goal_is_reached = at_reached goal is_site (omega (arith, z.1)) ∙ (λ i. Some (record { cost = z.0 i; delay = z.1 i }));
          legs_keep_rules = λ j here. leg_keeps j here (cases_lt (get_or delays (leg_at g j).tail 0) largest_delay) (cases_lt (get_or delays (leg_at g j).head 0) largest_delay);
        }
