-- The tables at the start, and that they are nearest once every leg is settled. Assumes nothing.
use Rattle.std.proofs.Common.{◌≡◌, ℕ, ◌<◌, ◌≤◌, true, false, ◌⊎◌, List, [], ◌∷◌, length, get_or, set, replicate, sym, refl, ap, ◌∙◌, subst, inl, inr, ⊎_elim, arith, length-set, get_or-set_other, get_or-set_same}
use Rattle.std.proofs.lemmas.List.{get_or-replicate, length-replicate}
use Rattle.std.proofs.lemmas.Bool.{cases_lt, cases_eq}
use Rattle.network.specs.declared.legs.Leg.{Leg}
use Rattle.network.specs.Legs.{leg_in_range}
use Rattle.network.specs.Tariffs.{Terms, Lawful}
use Rattle.network.specs.Walks.{Graph, graph, leg_at, no_leg, Walk, walk_cost, walk_delay}
use Rattle.network.proofs.Walking.{Regular, regular, walk_cost_fits, walk_cost_first, walk_delay_first}
use Rattle.reach.specs.Reaches.{largest_cost, largest_delay, Nearest, reached, cut_off}
use Rattle.reach.specs.Passes.{Tables, passed, changes}
use Rattle.reach.proofs.Measures.{reached_count, reached_few, reached_more, height}
use Rattle.reach.proofs.Relaxing.{Witnessed, Witnesses, Settled}
use Rattle.reach.proofs.Passing.{pass_keeps, pass_falls, pass_stays, pass_settles}

-- at the start only the goal is reached, by the walk of no leg
module _ (g : Graph) (n goal : ℕ) (is_site : goal < n) where
  abbrev blank_costs : List ℕ
  blank_costs = replicate n largest_cost

  abbrev blank_delays : List ℕ
  blank_delays = replicate n largest_delay

  goal_in_costs : goal < length blank_costs
  goal_in_costs = omega (arith, length-replicate n largest_cost)

  goal_in_delays : goal < length blank_delays
  goal_in_delays = omega (arith, length-replicate n largest_delay)

  first_site : (u : ℕ) → u < n → (u ≡ goal) ⊎ (u ≡ goal → ⊥) → Witnessed g goal (reached_count (set blank_delays goal 0)) u (get_or (set blank_costs goal 0) u 0) (get_or (set blank_delays goal 0) u 0)
  first_site u h (inl e) =
      let P : ℕ → Type 0 = λ v. Witnessed g goal (reached_count (set blank_delays goal 0)) v (get_or (set blank_costs goal 0) v 0) (get_or (set blank_delays goal 0) v 0) in
      let c = get_or-set_same blank_costs goal 0 0 goal_in_costs in
      let d = get_or-set_same blank_delays goal 0 0 goal_in_delays in
      let one = reached_more blank_delays goal 0 goal_in_delays (omega arith) (omega (arith, get_or-replicate n goal largest_delay 0 is_site)) in
      subst P (sym e) (record {
        cost_fits = omega arith;
        delay_fits = omega arith;
        unmet = λ x. absurd (omega arith);
        cost_walk = λ _. record { walk = []; leads = refl; has = sym c };
        delay_walk = λ _. record { walk = []; leads = refl; has = sym d };
        delay_bound = λ _. omega arith;
      })
  first_site u h (inr ne) =
      let c = get_or-set_other blank_costs goal u 0 0 ne ∙ get_or-replicate n u largest_cost 0 h in
      let d = get_or-set_other blank_delays goal u 0 0 ne ∙ get_or-replicate n u largest_delay 0 h in
      record {
        cost_fits = omega arith;
        delay_fits = omega arith;
        unmet = λ _. c;
        cost_walk = λ l. absurd (omega arith);
        delay_walk = λ l. absurd (omega arith);
        delay_bound = λ l. absurd (omega arith);
      }

  pub first_witnesses : (costs delays : List ℕ) → costs ≡ replicate n largest_cost → delays ≡ replicate n largest_delay
      → Witnesses g n goal (record { costs = set costs goal 0; delays = set delays goal 0 })
  first_witnesses costs delays ec ed =
      let blank : Witnesses g n goal (record { costs = set blank_costs goal 0; delays = set blank_delays goal 0 }) = record {
        costs_long = length-set blank_costs goal 0 ∙ length-replicate n largest_cost;
        delays_long = length-set blank_delays goal 0 ∙ length-replicate n largest_delay;
        goal_cost = get_or-set_same blank_costs goal 0 0 goal_in_costs;
        goal_delay = get_or-set_same blank_delays goal 0 0 goal_in_delays;
        site = λ u h. first_site u h (cases_eq u goal);
      } in
      let A : List ℕ → Type 0 = λ x. Witnesses g n goal (record { costs = set x goal 0; delays = set blank_delays goal 0 }) in
      let B : List ℕ → Type 0 = λ y. Witnesses g n goal (record { costs = set costs goal 0; delays = set y goal 0 }) in
      subst B (sym ed) (subst A (sym ec) blank)

-- at the end every leg is settled
module _ (g : Graph) (n goal : ℕ) (reg : Regular g n) (few : n ≤ 1024) (t : Tables) (holds : Witnesses g n goal t) (settled : (j : ℕ) → j < length g.legs → Settled g (leg_at g j) t) where
  -- the records of site u are at most c and d, and the site is reached
  record AtMost (u c d : ℕ) : Type 0 where
    met : get_or t.delays u 0 < largest_delay
    cost : get_or t.costs u 0 ≤ c
    delay : get_or t.delays u 0 ≤ d

  -- no walk comes to less than the records of its first site, by induction from its end
  at_most : (u : ℕ) (js : List ℕ) → Walk g u js goal → AtMost u (walk_cost g js) (walk_delay g js)
  at_most u [] w =
      let P : ℕ → Type 0 = λ v. AtMost v 0 0 in
      let c = holds.goal_cost in
      let d = holds.goal_delay in
      subst P (sym w) (record { met = omega arith; cost = omega arith; delay = omega arith })
  at_most u (j ∷ js) w =
      let here = w.0 in
      let head = (leg_at g j).head in
      let rest = at_most head js w.2 in
      let cost_settled = (settled j here).cost rest.met in
      let delay_settled = (settled j here).delay rest.met in
      let bound = (holds.site head (reg.heads j here)).delay_bound rest.met in
      let leg_bound = reg.delays j here in
      let count = reached_few t.delays in
      let long = holds.delays_long in
      let ordered = reg.ordered_right (get_or t.costs head 0) (walk_cost g js) (g.price (leg_at g j)) rest.cost (walk_cost_fits g n reg head goal js w.2) (reg.prices j here) in
      let first_cost = walk_cost_first g n reg u goal j js w in
      let first_delay = walk_delay_first g j js in
      let P : ℕ → Type 0 = λ v. AtMost v (walk_cost g (j ∷ js)) (walk_delay g (j ∷ js)) in
      subst P w.1 (record { met = omega arith; cost = omega arith; delay = omega (arith, rest.delay) })

  -- so the records, each of which is that of a walk, are the least
  pub settled_nearest : (u : ℕ) → u < n → Nearest g u goal (get_or t.costs u 0) (get_or t.delays u 0)
  settled_nearest u h =
      let s = holds.site u h in
      ⊎_elim
      (λ (met : get_or t.delays u 0 < largest_delay).
      let c = s.cost_walk met in
      let d = s.delay_walk met in
      reached
      (record { walk = c.walk; leads = c.leads; has = c.has; least = λ js w. (at_most u js w).cost })
      (record { walk = d.walk; leads = d.leads; has = d.has; least = λ js w. (at_most u js w).delay })
      met)
      (λ (far : largest_delay ≤ get_or t.delays u 0).
      let top : get_or t.delays u 0 ≡ largest_delay = omega (arith, s.delay_fits) in
      cut_off (λ js w. omega (arith, (at_most u js w).met)) (s.unmet top) top)
      (cases_lt (get_or t.delays u 0) largest_delay)

-- one turn of the passes, as the code has it: filled is the table of costs before the goal's record is written
module _ (terms : Terms) (legs : List Leg) (n goal : ℕ) (lawful : Lawful terms) (few : n ≤ 1024)
    (ranges : (j : ℕ) → j < length legs → leg_in_range n (get_or legs j no_leg) ≡ true) (filled : List ℕ) (long : length filled ≡ n) where
  abbrev priced : Graph
  priced = graph terms legs

  reg : Regular priced n
  reg = regular terms legs n lawful ranges

  same : length (set filled goal 0) ≡ n
  same = length-set filled goal 0 ∙ long

  pub turn_starts : goal < n → (delays : List ℕ) (m : ℕ) → m ≡ n → filled ≡ replicate n largest_cost → delays ≡ replicate m largest_delay
      → Witnesses priced (length (set filled goal 0)) goal (record { costs = set filled goal 0; delays = set delays goal 0 })
  turn_starts is_site delays m e ec ed =
      let P : ℕ → Type 0 = λ k. Witnesses priced k goal (record { costs = set filled goal 0; delays = set delays goal 0 }) in
      subst P (sym same) (first_witnesses priced n goal is_site filled delays ec (ed ∙ ap (λ k. replicate k largest_delay) e))

  module _ (before after : Tables) (holds : Witnesses priced (length (set filled goal 0)) goal before) (is : after ≡ passed priced legs before) where
    holds_n : Witnesses priced n goal before
    holds_n = let P : ℕ → Type 0 = λ k. Witnesses priced k goal before in subst P same holds

    pub turn_keeps : Witnesses priced (length (set filled goal 0)) goal after
    turn_keeps =
        let P : ℕ → Type 0 = λ k. Witnesses priced k goal after in
        let Q : Tables → Type 0 = λ s. Witnesses priced n goal s in
        subst P (sym same) (subst Q (sym is) (pass_keeps priced n goal reg few before holds_n))

    pub turn_falls : true ≡ changes priced legs before → height after < height before
    turn_falls e =
        let P : Tables → Type 0 = λ s. height s < height before in
        subst P (sym is) (pass_falls priced n goal reg few before holds_n (sym e))

    pub turn_ends : false ≡ changes priced legs before → (u : ℕ) → u < n → Nearest priced u goal (get_or after.costs u 0) (get_or after.delays u 0)
    turn_ends e u h =
        let P : Tables → Type 0 = λ s. Nearest priced u goal (get_or s.costs u 0) (get_or s.delays u 0) in
        let stays = pass_stays priced n goal reg few before holds_n (sym e) in
        let settled = pass_settles priced n goal reg few before holds_n (sym e) in
        subst P (sym (is ∙ stays)) (settled_nearest priced n goal reg few before holds_n settled u h)
