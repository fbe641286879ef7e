-- What holds of the two tables from leg to leg: every record below the largest is that of a walk. Assumes nothing.
use Rattle.std.proofs.Common.{◌≡◌, ℕ, ◌+◌, ◌*◌, ◌^◌, ◌<◌, ◌≤◌, min, Bool, true, false, ◌&&◌, ◌||◌, ltb, ◌⊎◌, List, ◌∷◌, length, get_or, sym, refl, ap, ◌∙◌, subst, inl, inr, ⊎_elim, arith, length-set, get_or-set_other, get_or-set_same}
use Rattle.std.proofs.lemmas.Bool.{cond_both, lt-ltb, ltb-true, cases_lt, cases_eq, or_cases, and_parts, both_ways}
use Rattle.std.proofs.lemmas.Bool.Decides.{nat_tests}
use Rattle.network.specs.declared.legs.Leg.{Leg}
use Rattle.network.specs.Walks.{Graph, leg_at, Walk, walk_cost, walk_delay}
use Rattle.network.proofs.Walking.{Regular, walk_cost_first, walk_delay_first}
use Rattle.reach.specs.Reaches.{largest_cost, largest_delay}
use Rattle.reach.specs.Passes.{Tables, cost_by, delay_by, head_met, lowered, lowers, relaxed, relaxes}
use Rattle.reach.proofs.Lowering.{lowered_stays, zero_stays}
use Rattle.reach.proofs.Measures.{reached_count, reached_few, reached_more, reached_keeps, height, height_lowered}

-- some walk from u to v has the value x
pub record Has (g : Graph) (value : List ℕ → ℕ) (u v x : ℕ) : Type 0 where
  pub walk : List ℕ
  pub leads : Walk g u walk v
  pub has : value walk ≡ x

-- the records c and d of site u, where k sites are reached: a delay below the largest is that of a walk to the goal, the
-- cost is then that of a walk too, and each site that is reached has added at most 4,000,000 to the longest delay
pub record Witnessed (g : Graph) (goal k u c d : ℕ) : Type 0 where
  pub cost_fits : c < 2 ^ 64
  pub delay_fits : d ≤ largest_delay
  pub unmet : d ≡ largest_delay → c ≡ largest_cost
  pub cost_walk : d < largest_delay → Has g (walk_cost g) u goal c
  pub delay_walk : d < largest_delay → Has g (walk_delay g) u goal d
  pub delay_bound : d < largest_delay → d + 4000000 ≤ k * 4000000

-- so are the records of all n sites, and those of the goal are 0
pub record Witnesses (g : Graph) (n goal : ℕ) (t : Tables) : Type 0 where
  pub costs_long : length t.costs ≡ n
  pub delays_long : length t.delays ≡ n
  pub goal_cost : get_or t.costs goal 0 ≡ 0
  pub goal_delay : get_or t.delays goal 0 ≡ 0
  pub site : (u : ℕ) → u < n → Witnessed g goal (reached_count t.delays) u (get_or t.costs u 0) (get_or t.delays u 0)

-- the leg lowers nothing
pub record Settled (g : Graph) (leg : Leg) (t : Tables) : Type 0 where
  pub cost : get_or t.delays leg.head 0 < largest_delay → get_or t.costs leg.tail 0 ≤ cost_by g leg t
  pub delay : get_or t.delays leg.head 0 < largest_delay → get_or t.delays leg.tail 0 ≤ delay_by g leg t

-- records stay witnessed where more sites are reached
more_reached : (g : Graph) (goal u c d k m : ℕ) → k ≤ m → Witnessed g goal k u c d → Witnessed g goal m u c d
more_reached g goal u c d k m h s = record {
  cost_fits = s.cost_fits;
  delay_fits = s.delay_fits;
  unmet = s.unmet;
  cost_walk = s.cost_walk;
  delay_walk = s.delay_walk;
  delay_bound = λ l. omega (arith, s.delay_bound l);
}

module _ (g : Graph) (n goal : ℕ) (reg : Regular g n) (few : n ≤ 1024) (j : ℕ) (here : j < length g.legs) where
  abbrev leg : Leg
  leg = leg_at g j

  -- the tail's records, lowered by way of the head: the leg before a walk from the head is a walk from the tail
  by_head : (c d e f k m : ℕ) → Witnessed g goal k leg.tail c d → Witnessed g goal k leg.head e f → f < largest_delay
      → k ≤ 1024 → k ≤ m → (largest_delay ≤ d → m ≡ k + 1)
      → Witnessed g goal m leg.tail (min c (g.join (g.price leg) e)) (min d (g.delay leg + f))
  by_head c d e f k m tail head met small grows new =
      let x = g.join (g.price leg) e in
      let y = g.delay leg + f in
      let x_fits : x < 2 ^ 64 = reg.joins (g.price leg) e (reg.prices j here) head.cost_fits in
      let leg_bound = reg.delays j here in
      let head_bound = head.delay_bound met in
      let low : min d y < largest_delay = omega arith in
      let w = head.cost_walk met in
      let v = head.delay_walk met in
      let cost_x : walk_cost g (j ∷ w.walk) ≡ x = walk_cost_first g n reg leg.tail goal j w.walk (here, refl, w.leads) ∙ ap (λ z. g.join (g.price leg) z) w.has in
      let delay_y : walk_delay g (j ∷ v.walk) ≡ y = walk_delay_first g j v.walk ∙ ap (λ z. g.delay leg + z) v.has in
      let by_leg : x ≡ min c x → Has g (walk_cost g) leg.tail goal (min c x) = λ z. record { walk = j ∷ w.walk; leads = (here, refl, w.leads); has = cost_x ∙ z } in
      record {
        cost_fits = omega (arith, tail.cost_fits);
        delay_fits = omega arith;
        unmet = λ z. absurd (omega arith);
        cost_walk = λ _. ⊎_elim
            (λ (h : x < c). by_leg (omega arith))
            (λ (h : c ≤ x). ⊎_elim
            (λ (l : d < largest_delay). let o = tail.cost_walk l in record { walk = o.walk; leads = o.leads; has = o.has ∙ omega arith })
            (λ (l : largest_delay ≤ d).
            let top : c ≡ largest_cost = tail.unmet (omega (arith, tail.delay_fits)) in
            by_leg (omega arith))
            (cases_lt d largest_delay))
            (cases_lt x c);
        delay_walk = λ _. ⊎_elim
            (λ (h : y < d). record { walk = j ∷ v.walk; leads = (here, refl, v.leads); has = delay_y ∙ omega arith })
            (λ (h : d ≤ y). let o = tail.delay_walk (omega arith) in record { walk = o.walk; leads = o.leads; has = o.has ∙ omega arith })
            (cases_lt y d);
        delay_bound = λ _. ⊎_elim
            (λ (l : d < largest_delay). omega (arith, tail.delay_bound l))
            (λ (l : largest_delay ≤ d). omega (arith, new l))
            (cases_lt d largest_delay);
      }

  module _ (t : Tables) (holds : Witnesses g n goal t) where
    tail_in_costs : leg.tail < length t.costs
    tail_in_costs = omega (arith, reg.tails j here, holds.costs_long)

    tail_in_delays : leg.tail < length t.delays
    tail_in_delays = omega (arith, reg.tails j here, holds.delays_long)

    abbrev new_costs : List ℕ
    new_costs = lowered t.costs leg.tail (cost_by g leg t)

    abbrev new_delays : List ℕ
    new_delays = lowered t.delays leg.tail (delay_by g leg t)

    module _ (met : get_or t.delays leg.head 0 < largest_delay) where
      few_reached : reached_count t.delays ≤ 1024
      few_reached = omega (arith, reached_few t.delays, holds.delays_long)

      -- a new delay stays below the largest: 1,024 times 4,000,000 is less
      low : min (get_or t.delays leg.tail 0) (delay_by g leg t) < largest_delay
      low = omega (arith, (holds.site leg.head (reg.heads j here)).delay_bound met, reg.delays j here, few_reached)

      -- the records of each site after the leg, the tail's and the others'
      site_after : (u : ℕ) → u < n → (u ≡ leg.tail) ⊎ (u ≡ leg.tail → ⊥) → Witnessed g goal (reached_count new_delays) u (get_or new_costs u 0) (get_or new_delays u 0)
      site_after u h (inl e) =
          let k = reached_count new_delays in
          let c = min (get_or t.costs leg.tail 0) (cost_by g leg t) in
          let d = min (get_or t.delays leg.tail 0) (delay_by g leg t) in
          let at_tail : Witnessed g goal k leg.tail c d =
          by_head _ _ _ _ (reached_count t.delays) k (holds.site leg.tail (reg.tails j here)) (holds.site leg.head (reg.heads j here)) met few_reached
          (reached_keeps t.delays leg.tail d tail_in_delays low) (reached_more t.delays leg.tail d tail_in_delays low) in
          let ec = get_or-set_same t.costs leg.tail c 0 tail_in_costs in
          let ed = get_or-set_same t.delays leg.tail d 0 tail_in_delays in
          let P : ℕ → Type 0 = λ v. Witnessed g goal k v (get_or new_costs v 0) (get_or new_delays v 0) in
          let Q : ℕ → Type 0 = λ z. Witnessed g goal k leg.tail z d in
          let R : ℕ → Type 0 = λ z. Witnessed g goal k leg.tail (get_or new_costs leg.tail 0) z in
          subst P (sym e) (subst R (sym ed) (subst Q (sym ec) at_tail))
      site_after u h (inr ne) =
          let k = reached_count new_delays in
          let ec = get_or-set_other t.costs leg.tail u (min (get_or t.costs leg.tail 0) (cost_by g leg t)) 0 ne in
          let ed = get_or-set_other t.delays leg.tail u (min (get_or t.delays leg.tail 0) (delay_by g leg t)) 0 ne in
          let more = more_reached g goal u (get_or t.costs u 0) (get_or t.delays u 0) (reached_count t.delays) k (reached_keeps t.delays leg.tail _ tail_in_delays low) (holds.site u h) in
          let Q : ℕ → Type 0 = λ z. Witnessed g goal k u z (get_or t.delays u 0) in
          let R : ℕ → Type 0 = λ z. Witnessed g goal k u (get_or new_costs u 0) z in
          subst R (sym ed) (subst Q (sym ec) more)

      lowered_keeps : Witnesses g n goal (record { costs = new_costs; delays = new_delays })
      lowered_keeps = record {
        costs_long = length-set t.costs leg.tail _ ∙ holds.costs_long;
        delays_long = length-set t.delays leg.tail _ ∙ holds.delays_long;
        goal_cost = zero_stays t.costs leg.tail (cost_by g leg t) goal tail_in_costs holds.goal_cost;
        goal_delay = zero_stays t.delays leg.tail (delay_by g leg t) goal tail_in_delays holds.goal_delay;
        site = λ u h. site_after u h (cases_eq u leg.tail);
      }

    -- one leg keeps the records witnessed
    pub relaxed_keeps : Witnesses g n goal (relaxed g leg t)
    relaxed_keeps = cond_both (head_met leg t) _ _ (λ s. Witnesses g n goal s) (λ e. lowered_keeps (ltb-true _ _ e)) (λ _. holds)

    -- no leg raises the height
    pub relaxed_not_higher : height (relaxed g leg t) ≤ height t
    relaxed_not_higher = cond_both (head_met leg t) _ _ (λ s. height s ≤ height t)
        (λ _. omega (arith, height_lowered t leg.tail (cost_by g leg t) (delay_by g leg t) tail_in_costs tail_in_delays)) (λ _. omega arith)

    -- a leg that lowers a record lowers the height
    pub relaxed_falls : relaxes g leg t ≡ true → height (relaxed g leg t) < height t
    relaxed_falls e =
        let parts = and_parts (head_met leg t) (lowers t.delays leg.tail (delay_by g leg t) || lowers t.costs leg.tail (cost_by g leg t)) e in
        let h = height_lowered t leg.tail (cost_by g leg t) (delay_by g leg t) tail_in_costs tail_in_delays in
        cond_both (head_met leg t) _ _ (λ s. height s < height t)
        (λ _. ⊎_elim
        (λ (s : lowers t.delays leg.tail (delay_by g leg t) ≡ true). omega (arith, ltb-true _ _ s))
        (λ (s : lowers t.costs leg.tail (cost_by g leg t) ≡ true). omega (arith, ltb-true _ _ s))
        (or_cases _ _ parts.1))
        (λ f. absurd (both_ways (head_met leg t) f parts.0))

    -- a test of three parts that fails, the first of which holds
    neither : (b : Bool) (x y u v : ℕ) → b ≡ true → (b && (ltb x y || ltb u v)) ≡ false → (y ≤ x) × (v ≤ u)
    neither b x y u v h e = (grind (arith, nat_tests), grind (arith, nat_tests))

    -- a leg that lowers none is settled
    pub relaxed_settles : relaxes g leg t ≡ false → Settled g leg t
    relaxed_settles e = record {
      cost = λ met. (neither (head_met leg t) _ _ _ _ (lt-ltb _ _ met) e).1;
      delay = λ met. (neither (head_met leg t) _ _ _ _ (lt-ltb _ _ met) e).0;
    }

    -- and leaves the tables as they are
    pub relaxed_stays : relaxes g leg t ≡ false → relaxed g leg t ≡ t
    relaxed_stays e =
        let s = relaxed_settles e in
        cond_both (head_met leg t) _ _ (λ r. r ≡ t)
        (λ b.
        let met = ltb-true _ _ b in
        let cs = lowered_stays t.costs leg.tail (cost_by g leg t) (s.cost met) in
        let ds = lowered_stays t.delays leg.tail (delay_by g leg t) (s.delay met) in
        λ i. record { costs = sym cs i; delays = sym ds i })
        (λ _. refl)
