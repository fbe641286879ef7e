-- What a lawful estimate tells: how entries are ranked along a walk, and from which sites no route goes on. Assumes nothing.
use Rattle.std.proofs.Common.{◌≡◌, ℕ, ◌+◌, ◌^◌, ◌<◌, ◌≤◌, true, List, [], ◌∷◌, length, Some, None, Option, refl, ap, ◌∙◌, subst, ⊎_elim, arith}
use Rattle.std.proofs.lemmas.Bool.{cases_lt}
use Rattle.std.proofs.lemmas.Bool.Decides.{nat_tests}
use Rattle.network.specs.declared.estimates.Bound.{Bound}
use Rattle.network.specs.declared.legs.Leg.{Leg}
use Rattle.network.specs.Estimates.{nothing_left, ends_keep_rules}
use Rattle.network.specs.Tariffs.{Terms}
use Rattle.network.specs.Walks.{Graph, leg_at, Walk}
use Rattle.worksheet.specs.declared.records.Mark.{Mark}
use Rattle.worksheet.specs.Problem.{Problem, extend}
use Rattle.worksheet.specs.Steps.{State}
use Rattle.worksheet.specs.Series.{Accepted}
use Rattle.worksheet.proofs.Marks.{finish, costs, extend_small, extend_more}

-- Of one estimate there is one answer.
pub same_some : {A : Type 0} (o : Option A) (x y : A) → o ≡ Some x → o ≡ Some y → x ≡ y
same_some o x y e f = cc

some_and_none : {A : Type 0} (o : Option A) (x : A) → o ≡ Some x → o ≡ None → ⊥
some_and_none o x e f = cc

-- The rules for a leg, one by one: a head is cut off with its tail, and the two bounds.
cut_off_rule : (g : Graph) (leg : Leg) (o q : Option Bound) → ends_keep_rules g leg o q ≡ true → o ≡ None → q ≡ None
cut_off_rule g leg o q e f = grind arith

bounds_rule : (g : Graph) (leg : Leg) (o q : Option Bound) (t h : Bound) → ends_keep_rules g leg o q ≡ true → o ≡ Some t → q ≡ Some h
    → (t.cost ≤ g.join (g.price leg) h.cost) × (t.delay ≤ g.delay leg + h.delay)
bounds_rule g leg o q t h e f k =
    (grind (arith, nat_tests), grind (arith, nat_tests))

-- The order of entries, as far as it decides what is expanded: by estimate, then by cost.
abbrev pub Sooner : ℕ → ℕ → ℕ → ℕ → Type 0
Sooner e c e' c' = (e ≤ e') × (e ≡ e' → c ≤ c')

pub sooner_through : (a b c d e f : ℕ) → Sooner a b c d → Sooner c d e f → Sooner a b e f
sooner_through a b c d e f h k = grind arith

-- The estimated cost e is the cost c joined with that of the estimate at site v.
pub record Ranked (p : Problem) (v c e : ℕ) : Type 0 where
  pub bound : Bound
  pub known : p.at v ≡ Some bound
  pub cost_small : c < 2 ^ 64
  pub bound_small : bound.cost < 2 ^ 64
  pub estimate : e ≡ p.graph.join c bound.cost

-- The estimate at site u, after the mark m, is at most f.
pub record Bounded (p : Problem) (u : ℕ) (m f : Mark) : Type 0 where
  pub bound : Bound
  pub known : p.at u ≡ Some bound
  pub cost : p.graph.join m.cost bound.cost ≤ f.cost
  pub delay : m.delay + bound.delay ≤ f.delay

-- No walk on from mark m at site v ends at the goal within the limit.
abbrev pub Hopeless : Problem → ℕ → Mark → Type 0
Hopeless p v m = (js : List ℕ) → Walk p.graph v js p.goal → (finish p.graph m js).delay ≤ p.limit → ⊥

module _ {t : Terms} {p : Problem} {w : State} (acc : Accepted t p w) where
  -- At one site the order of entries is the order of their costs.
  pub cheaper : (v c e c' e' : ℕ) → Ranked p v c e → Ranked p v c' e' → Sooner e c e' c' → c ≤ c'
  cheaper v c e c' e' k k' h = ⊎_elim less (λ (x : c ≤ c'). x) (cases_lt c' c)
    where
      less : c' < c → c ≤ c'
      less l =
          let same : k.bound ≡ k'.bound = same_some (p.at v) k.bound k'.bound k.known k'.known in
          let m = (costs acc).ordered_left c' c k'.bound.cost (omega arith) k.cost_small k'.bound_small in
          let a : e ≡ p.graph.join c k'.bound.cost = k.estimate ∙ ap (λ (q : Bound). p.graph.join c q.cost) same in
          h.1 (omega (arith, m, a, k'.estimate, h.0))

  module _ (j : ℕ) (b : j < length p.graph.legs) where
    rules : (h k : Bound) → p.at (leg_at p.graph j).tail ≡ Some h → p.at (leg_at p.graph j).head ≡ Some k
        → (h.cost ≤ p.graph.join (p.graph.price (leg_at p.graph j)) k.cost) × (h.delay ≤ p.graph.delay (leg_at p.graph j) + k.delay)
    rules h k = bounds_rule p.graph (leg_at p.graph j) _ _ h k (acc.estimate_is_lawful.legs_keep_rules j b)

    -- A label's child does not come before it.
    pub child_later : (m : Mark) (e e' : ℕ) → Ranked p (leg_at p.graph j).tail m.cost e → Ranked p (leg_at p.graph j).head (extend p.graph m (leg_at p.graph j)).cost e'
        → Sooner e m.cost e' (extend p.graph m (leg_at p.graph j)).cost
    child_later m e e' k k' =
        let law = costs acc in
        let price = p.graph.price (leg_at p.graph j) in
        let small = law.prices j b in
        let c = law.ordered_right k.bound.cost (p.graph.join price k'.bound.cost) m.cost (rules k.bound k'.bound k.known k'.known).0 (law.joins price k'.bound.cost small k'.bound_small) k.cost_small in
        let a = law.associative m.cost price k'.bound.cost k.cost_small small k'.bound_small in
        (omega (arith, c, a, k.estimate, k'.estimate), λ _. (extend_more p.graph law j b m k.cost_small).0)

    -- What bounds a walk on from a leg's head, with the leg, bounds it from the tail.
    bounded_back : (m f : Mark) → m.cost < 2 ^ 64 → Bounded p (leg_at p.graph j).head (extend p.graph m (leg_at p.graph j)) f → Bounded p (leg_at p.graph j).tail m f
    bounded_back m f small k = by (p.at (leg_at p.graph j).tail) refl
      where
        by : (o : Option Bound) → p.at (leg_at p.graph j).tail ≡ o → Bounded p (leg_at p.graph j).tail m f
        by None e =
            let none = cut_off_rule p.graph (leg_at p.graph j) _ _ (acc.estimate_is_lawful.legs_keep_rules j b) e in
            absurd (some_and_none (p.at (leg_at p.graph j).head) k.bound k.known none)
        by (Some q) e =
            let law = costs acc in
            let price = p.graph.price (leg_at p.graph j) in
            let fits = acc.head_estimates_fit j b k.bound k.known in
            let rule = rules q k.bound e k.known in
            let c = law.ordered_right q.cost (p.graph.join price k.bound.cost) m.cost rule.0 (law.joins price k.bound.cost (law.prices j b) fits) small in
            record {
              bound = q;
              known = e;
              cost = omega (arith, c, law.associative m.cost price k.bound.cost small (law.prices j b) fits, k.cost);
              delay = omega (arith, rule.1, k.delay);
            }

  -- So the estimate at a site bounds what every walk from it to the goal comes to.
  pub bounded : (js : List ℕ) (u : ℕ) → Walk p.graph u js p.goal → (m : Mark) → m.cost < 2 ^ 64 → Bounded p u m (finish p.graph m js)
  bounded [] u q m h = record { bound = nothing_left; known = ap p.at q ∙ acc.estimate_is_lawful.goal_is_reached; cost = omega (arith, (costs acc).zero_right m.cost h); delay = omega arith }
  bounded (j ∷ js) u q m h =
      let n = extend p.graph m (leg_at p.graph j) in
      subst (λ x. Bounded p x m (finish p.graph n js)) q.1
      (bounded_back j q.0 m (finish p.graph n js) h (bounded js (leg_at p.graph j).head q.2 n (extend_small p.graph (costs acc) j q.0 m h)))

  -- The two reasons to leave a head: it is cut off, or its estimated delay exceeds what is left.
  pub cut_off_hopeless : (v : ℕ) (m : Mark) → m.cost < 2 ^ 64 → p.at v ≡ None → Hopeless p v m
  cut_off_hopeless v m h e js q i = let k = bounded js v q m h in some_and_none (p.at v) k.bound k.known e

  pub late_hopeless : (v : ℕ) (m : Mark) (h : Bound) → m.cost < 2 ^ 64 → p.at v ≡ Some h → p.limit < m.delay + h.delay → Hopeless p v m
  late_hopeless v m h small e l js q i =
      let k = bounded js v q m small in
      let same = ap (λ (z : Bound). z.delay) (same_some (p.at v) k.bound h k.known e) in
      omega (arith, k.delay)
