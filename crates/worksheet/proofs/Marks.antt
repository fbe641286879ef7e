-- What a walk comes to, and what the laws of a tariff say of it, all costs being below 2 ^ 64. Assumes nothing.
use Rattle.std.proofs.Common.{◌≡◌, ℕ, ◌+◌, ◌^◌, ◌<◌, ◌≤◌, List, [], ◌∷◌, length, sym, ap, ◌∙◌, subst, le_trans, le_refl, arith}
use Rattle.network.specs.Tariffs.{Terms}
use Rattle.network.specs.Walks.{Graph, leg_at, Walk, cost_on, walk_delay}
use Rattle.network.proofs.Ranges.{ranges}
use Rattle.worksheet.specs.declared.records.Mark.{Mark}
use Rattle.worksheet.specs.Problem.{Problem, nothing, extend}
use Rattle.worksheet.specs.Steps.{State}
use Rattle.worksheet.specs.Series.{Accepted, walk_mark, Covers}

pub covers_itself : (m : Mark) → Covers m m
covers_itself m = (le_refl m.cost, le_refl m.delay)

pub covers_through : (x y z : Mark) → Covers x y → Covers y z → Covers x z
covers_through x y z h k = (le_trans h.0 k.0, le_trans h.1 k.1)

-- Marks that cover each other are the same.
pub covers_both : (x y : Mark) → Covers x y → Covers y x → x ≡ y
covers_both x y h k =
    let c : x.cost ≡ y.cost = omega (arith, h.0, k.0) in
    let d : x.delay ≡ y.delay = omega (arith, h.1, k.1) in
    λ i. record { cost = c i; delay = d i }

-- What m comes to with the legs of a walk more.
abbrev pub finish : Graph → Mark → List ℕ → Mark
finish g m [] = m
finish g m (j ∷ js) = finish g (extend g m (leg_at g j)) js

-- A walk finished leg by leg comes to its cost and its delay.
finish_is : (g : Graph) (js : List ℕ) (m : Mark) → finish g m js ≡ record { cost = cost_on g m.cost js; delay = m.delay + walk_delay g js }
finish_is g [] m = let d : m.delay ≡ m.delay + 0 = omega arith in λ i. record { cost = m.cost; delay = d i }
finish_is g (j ∷ js) m =
    let d : (m.delay + g.delay (leg_at g j)) + walk_delay g js ≡ m.delay + (g.delay (leg_at g j) + walk_delay g js) = omega arith in
    finish_is g js (extend g m (leg_at g j)) ∙ (λ i. record { cost = cost_on g (g.join m.cost (g.price (leg_at g j))) js; delay = d i })

pub finish_nothing : (g : Graph) (js : List ℕ) → finish g nothing js ≡ walk_mark g js
finish_nothing g js = let d : 0 + walk_delay g js ≡ walk_delay g js = omega arith in finish_is g js nothing ∙ (λ i. record { cost = cost_on g 0 js; delay = d i })

-- The laws of a tariff, said of the joins of a graph and of the prices of its legs.
pub record Costs (g : Graph) : Type 0 where
  pub prices : (j : ℕ) → j < length g.legs → g.price (leg_at g j) < 2 ^ 64
  pub joins : (a b : ℕ) → a < 2 ^ 64 → b < 2 ^ 64 → g.join a b < 2 ^ 64
  pub zero_right : (a : ℕ) → a < 2 ^ 64 → g.join a 0 ≡ a
  pub associative : (a b c : ℕ) → a < 2 ^ 64 → b < 2 ^ 64 → c < 2 ^ 64 → g.join (g.join a b) c ≡ g.join a (g.join b c)
  pub ordered_left : (a b c : ℕ) → a ≤ b → b < 2 ^ 64 → c < 2 ^ 64 → g.join a c ≤ g.join b c
  pub ordered_right : (a b c : ℕ) → a ≤ b → b < 2 ^ 64 → c < 2 ^ 64 → g.join c a ≤ g.join c b

-- An accepted search has them.
pub costs : {t : Terms} {p : Problem} {w : State} → Accepted t p w → Costs p.graph
costs {t} {p} acc =
    let law = acc.tariff_is_lawful in
    let is = acc.joins in
    record {
      prices = λ j b.
          let leg = leg_at p.graph j in
          let r = ranges p.sites leg (acc.legs_in_range j b) in
          subst (λ c. c < 2 ^ 64) (sym (acc.prices leg)) (law.prices leg.fee leg.grade (omega (arith, r.fee)) (omega (arith, r.grade)));
      joins = λ a b h k. subst (λ c. c < 2 ^ 64) (sym (is a b)) (law.joins a b h k);
      zero_right = λ a h. is a 0 ∙ law.zero_right a h;
      associative = λ a b c h k l.
          is (p.graph.join a b) c ∙ ap (λ x. t.join x c) (is a b) ∙ law.associative a b c h k l ∙ sym (is a (p.graph.join b c) ∙ ap (t.join a) (is b c));
      ordered_left = λ a b c h k l. omega (arith, is a c, is b c, law.ordered_left a b c h k l);
      ordered_right = λ a b c h k l. omega (arith, is c a, is c b, law.ordered_right a b c h k l);
    }

module _ (g : Graph) (law : Costs g) where
  -- Joining never makes a cost less.
  join_more : (a b : ℕ) → a < 2 ^ 64 → b < 2 ^ 64 → a ≤ g.join a b
  join_more a b h k = subst (λ x. x ≤ g.join a b) (law.zero_right a h) (law.ordered_right 0 b a (omega arith) k h)

  -- One leg more: costs stay below 2 ^ 64, nothing becomes less, and order is kept.
  module _ (j : ℕ) (b : j < length g.legs) where
    pub extend_small : (m : Mark) → m.cost < 2 ^ 64 → (extend g m (leg_at g j)).cost < 2 ^ 64
    extend_small m h = law.joins m.cost (g.price (leg_at g j)) h (law.prices j b)

    pub extend_more : (m : Mark) → m.cost < 2 ^ 64 → Covers m (extend g m (leg_at g j))
    extend_more m h = (join_more m.cost (g.price (leg_at g j)) h (law.prices j b), omega arith)

    pub extend_ordered : (x m : Mark) → m.cost < 2 ^ 64 → Covers x m → Covers (extend g x (leg_at g j)) (extend g m (leg_at g j))
    extend_ordered x m h c = (law.ordered_left x.cost m.cost (g.price (leg_at g j)) c.0 h (law.prices j b), omega (arith, c.1))

  -- The same for the legs of a walk more.
  pub finish_more : (js : List ℕ) (u v : ℕ) → Walk g u js v → (m : Mark) → m.cost < 2 ^ 64 → Covers m (finish g m js)
  finish_more [] u v w m h = covers_itself m
  finish_more (j ∷ js) u v w m h =
      let n = extend g m (leg_at g j) in
      covers_through m n (finish g n js) (extend_more j w.0 m h) (finish_more js (leg_at g j).head v w.2 n (extend_small j w.0 m h))

  pub finish_ordered : (js : List ℕ) (u v : ℕ) → Walk g u js v → (x m : Mark) → m.cost < 2 ^ 64 → Covers x m → Covers (finish g x js) (finish g m js)
  finish_ordered [] u v w x m h c = c
  finish_ordered (j ∷ js) u v w x m h c =
      let leg = leg_at g j in
      finish_ordered js leg.head v w.2 (extend g x leg) (extend g m leg) (extend_small j w.0 m h) (extend_ordered j w.0 x m h c)
