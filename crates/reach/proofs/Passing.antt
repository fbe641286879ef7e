-- One pass over the legs: it keeps the records witnessed, and lowers the height or settles every leg. Assumes nothing.
use Rattle.std.proofs.Common.{◌≡◌, ℕ, ◌+◌, ◌<◌, ◌≤◌, true, false, ◌||◌, List, [], ◌∷◌, length, get_or, drop, sym, refl, ap, ◌∙◌, subst, ⊎_elim, arith}
use Rattle.std.specs.List.{AllByRecursion}
use Rattle.std.proofs.ByRecursion.{All-get_or, All-from_get_or}
use Rattle.std.proofs.lemmas.List.{at_drop_more, at_drop_all}
use Rattle.std.proofs.lemmas.Bool.{or_cases, or_parts}
use Rattle.network.specs.declared.legs.Leg.{Leg}
use Rattle.network.specs.Walks.{Graph, leg_at, no_leg}
use Rattle.network.proofs.Walking.{Regular}
use Rattle.reach.specs.Passes.{Tables, relaxed, relaxes, passed, changes}
use Rattle.reach.proofs.Measures.{height}
use Rattle.reach.proofs.Relaxing.{Witnesses, Settled, relaxed_keeps, relaxed_not_higher, relaxed_falls, relaxed_settles, relaxed_stays}

-- the legs from leg i on, and past the last
module _ (g : Graph) (legs : List Leg) (i : ℕ) (t : Tables) where
  pub passed_more : i < length legs → passed g (drop i legs) t ≡ passed g (drop (i + 1) legs) (relaxed g (get_or legs i no_leg) t)
  unfolding passed
  passed_more here = at_drop_more (λ rest. passed g rest t) legs i no_leg here

  pub changes_more : i < length legs → changes g (drop i legs) t ≡ (relaxes g (get_or legs i no_leg) t || changes g (drop (i + 1) legs) (relaxed g (get_or legs i no_leg) t))
  unfolding changes
  changes_more here = at_drop_more (λ rest. changes g rest t) legs i no_leg here

  pub passed_all : length legs ≤ i → passed g (drop i legs) t ≡ t
  unfolding passed
  passed_all past = at_drop_all (λ rest. passed g rest t) legs i past

  pub changes_all : length legs ≤ i → changes g (drop i legs) t ≡ false
  unfolding changes
  changes_all past = at_drop_all (λ rest. changes g rest t) legs i past

-- the leg has a number in the graph
record LegOf (g : Graph) (leg : Leg) : Type 0 where
  number : ℕ
  below : number < length g.legs
  is : leg_at g number ≡ leg

legs_of_graph : (g : Graph) → AllByRecursion (LegOf g) g.legs
legs_of_graph g = All-from_get_or (LegOf g) g.legs no_leg (λ j h. record { number = j; below = h; is = refl })

module _ (g : Graph) (n goal : ℕ) (reg : Regular g n) (few : n ≤ 1024) where
  module _ (leg : Leg) (of : LegOf g leg) (t : Tables) (holds : Witnesses g n goal t) where
    keeps : Witnesses g n goal (relaxed g leg t)
    keeps = let P : Leg → Type 0 = λ a. Witnesses g n goal (relaxed g a t) in subst P of.is (relaxed_keeps g n goal reg few of.number of.below t holds)

    not_higher : height (relaxed g leg t) ≤ height t
    not_higher = let P : Leg → Type 0 = λ a. height (relaxed g a t) ≤ height t in subst P of.is (relaxed_not_higher g n goal reg few of.number of.below t holds)

    falls : relaxes g leg t ≡ true → height (relaxed g leg t) < height t
    falls = let P : Leg → Type 0 = λ a. relaxes g a t ≡ true → height (relaxed g a t) < height t in subst P of.is (relaxed_falls g n goal reg few of.number of.below t holds)

    settles : relaxes g leg t ≡ false → Settled g leg t
    settles = let P : Leg → Type 0 = λ a. relaxes g a t ≡ false → Settled g a t in subst P of.is (relaxed_settles g n goal reg few of.number of.below t holds)

    stays : relaxes g leg t ≡ false → relaxed g leg t ≡ t
    stays = let P : Leg → Type 0 = λ a. relaxes g a t ≡ false → relaxed g a t ≡ t in subst P of.is (relaxed_stays g n goal reg few of.number of.below t holds)

  keeps_all : (legs : List Leg) → AllByRecursion (LegOf g) legs → (t : Tables) → Witnesses g n goal t → Witnesses g n goal (passed g legs t)
  unfolding passed
  keeps_all [] of t holds = holds
  keeps_all (leg ∷ legs) of t holds = keeps_all legs of.1 (relaxed g leg t) (keeps leg of.0 t holds)

  not_higher_all : (legs : List Leg) → AllByRecursion (LegOf g) legs → (t : Tables) → Witnesses g n goal t → height (passed g legs t) ≤ height t
  unfolding passed
  not_higher_all [] of t holds = omega arith
  not_higher_all (leg ∷ legs) of t holds = omega (arith, not_higher_all legs of.1 (relaxed g leg t) (keeps leg of.0 t holds), not_higher leg of.0 t holds)

  falls_all : (legs : List Leg) → AllByRecursion (LegOf g) legs → (t : Tables) → Witnesses g n goal t → changes g legs t ≡ true → height (passed g legs t) < height t
  unfolding passed changes
  falls_all [] of t holds e = cc
  falls_all (leg ∷ legs) of t holds e =
      let after = keeps leg of.0 t holds in
      ⊎_elim
      (λ (a : relaxes g leg t ≡ true). omega (arith, falls leg of.0 t holds a, not_higher_all legs of.1 (relaxed g leg t) after))
      (λ (b : changes g legs (relaxed g leg t) ≡ true). omega (arith, falls_all legs of.1 (relaxed g leg t) after b, not_higher leg of.0 t holds))
      (or_cases (relaxes g leg t) (changes g legs (relaxed g leg t)) e)

  rests_all : (legs : List Leg) → AllByRecursion (LegOf g) legs → (t : Tables) → Witnesses g n goal t → changes g legs t ≡ false → (passed g legs t ≡ t) × AllByRecursion (λ leg. Settled g leg t) legs
  unfolding passed changes
  rests_all [] of t holds e = (refl, tt)
  rests_all (leg ∷ legs) of t holds e =
      let parts = or_parts (relaxes g leg t) (changes g legs (relaxed g leg t)) e in
      let same = stays leg of.0 t holds parts.0 in
      let rest = rests_all legs of.1 t holds (ap (λ s. changes g legs s) (sym same) ∙ parts.1) in
      (ap (λ s. passed g legs s) same ∙ rest.0, (settles leg of.0 t holds parts.0, rest.1))

  module _ (t : Tables) (holds : Witnesses g n goal t) where
    -- a pass keeps the records witnessed
    pub pass_keeps : Witnesses g n goal (passed g g.legs t)
    pass_keeps = keeps_all g.legs (legs_of_graph g) t holds

    -- a pass that changes a record lowers the height
    pub pass_falls : changes g g.legs t ≡ true → height (passed g g.legs t) < height t
    pass_falls = falls_all g.legs (legs_of_graph g) t holds

    -- a pass that changes none leaves the tables as they are, with every leg settled
    pub pass_stays : changes g g.legs t ≡ false → passed g g.legs t ≡ t
    pass_stays e = (rests_all g.legs (legs_of_graph g) t holds e).0

    pub pass_settles : changes g g.legs t ≡ false → (j : ℕ) → j < length g.legs → Settled g (leg_at g j) t
    pass_settles e j h = All-get_or (λ leg. Settled g leg t) g.legs j no_leg h (rests_all g.legs (legs_of_graph g) t holds e).1

-- what the loop over the legs needs
pub ruleset one_by_one = (passed_more, changes_more, passed_all, changes_all)
