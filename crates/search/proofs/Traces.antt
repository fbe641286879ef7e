-- The loops over the chain of a found label. Assumes nothing.
use Rattle.std.proofs.Common.{◌≡◌, ℕ, zero, suc, ◌+◌, ◌-◌, ◌<◌, ◌≤◌, Bool, true, false, cond, eqb, ltb, List, [], ◌∷◌, ◌++◌, length, take, drop, set, min, Some, None, Option, sym, refl, ap, ◌∙◌, ⊎_elim, arith}
use Rattle.std.proofs.lemmas.List.{drop-set, get_or-take, length-take}
use Rattle.std.proofs.lemmas.Bool.{cond-true, cond-false, ne_eqb, eq-eqb, cases_eq}
use Rattle.std.proofs.lemmas.Bool.Decides.{nat_tests}
use Rattle.std.proofs.lemmas.Option.{cond_some}
use Rattle.worksheet.specs.declared.records.Label.{Label}
use Rattle.worksheet.specs.declared.records.Origin.{Origin}
use Rattle.worksheet.specs.Steps.{label_at}
use Rattle.search.specs.Calls.{origin_inside, origin_at, at_first, by_origin, chain_from}
use Rattle.search.specs.Parts.{chain_length, laid}

-- an origin that is inside stands before its label
inside_below : (m i : ℕ) (b : Bool) (from : Option Origin) (o : Origin) → Some o ≡ cond b (origin_inside m i from) None → o.parent < i
inside_below m i b from o e = grind (arith, nat_tests)

module _ (m n : ℕ) (labels : List Label) where
  below : (i : ℕ) (o : Origin) → Some o ≡ origin_at m n labels i → o.parent < i
  below i o e = inside_below m i (ltb i n) (label_at labels i).from o e

  -- the ways of a chain
  chain_on : (fuel i : ℕ) (js : List ℕ) (o : Origin) → (i ≡ 0 → ⊥) → Some o ≡ origin_at m n labels i → chain_from m n labels (suc fuel) i js ≡ chain_from m n labels fuel o.parent (o.leg ∷ js)
  unfolding chain_from
  chain_on fuel i js o some e = cond-false _ _ _ (ne_eqb _ _ some) ∙ ap (λ x. by_origin x (λ y. chain_from m n labels fuel y.parent (y.leg ∷ js))) (sym e)

  chain_fails : (fuel i : ℕ) (js : List ℕ) → (i ≡ 0 → ⊥) → None ≡ origin_at m n labels i → chain_from m n labels (suc fuel) i js ≡ None
  unfolding chain_from
  chain_fails fuel i js some e = cond-false _ _ _ (ne_eqb _ _ some) ∙ ap (λ x. by_origin x (λ y. chain_from m n labels fuel y.parent (y.leg ∷ js))) (sym e)

  chain_ends : (fuel i : ℕ) (js : List ℕ) → i ≡ 0 → chain_from m n labels fuel i js ≡ at_first n js
  unfolding chain_from
  chain_ends zero i js e = refl
  chain_ends (suc fuel) i js e = cond-true _ _ _ (eq-eqb _ _ e)

  -- without a label no chain ends
  none_ends : (fuel i : ℕ) (js : List ℕ) → n ≡ 0 → chain_from m n labels fuel i js ≡ None
  unfolding chain_from
  none_ends zero i js none = grind (arith, nat_tests)
  none_ends (suc fuel) i js none = grind (arith, nat_tests)

  -- what is found is no shorter than the legs that were read before
  longer_by : (fuel : ℕ) (b : Bool) (o : Option Origin) (js ks : List ℕ) → ((i : ℕ) (more : List ℕ) → chain_from m n labels fuel i more ≡ Some ks → length more ≤ length ks)
      → cond b (at_first n js) (by_origin o (λ y. chain_from m n labels fuel y.parent (y.leg ∷ js))) ≡ Some ks → length js ≤ length ks
  longer_by fuel true o js ks ih e = let all = ap length (cond_some (ltb 0 n) js ks e).1 in omega arith
  longer_by fuel false None js ks ih e = cc
  longer_by fuel false (Some o) js ks ih e = let h = ih o.parent (o.leg ∷ js) e in omega arith

  longer : (fuel i : ℕ) (js ks : List ℕ) → chain_from m n labels fuel i js ≡ Some ks → length js ≤ length ks
  unfolding chain_from
  longer zero i js ks e = let all = ap length (cond_some (ltb 0 n) js ks e).1 in omega arith
  longer (suc fuel) i js ks e = longer_by fuel (eqb i 0) (origin_at m n labels i) js ks (λ j more h. longer fuel j more ks h) e

  abbrev whole : ℕ → Option (List ℕ)
  whole found = chain_from m n labels found found []

  pub count_none : (found : ℕ) → n ≡ 0 → None ≡ chain_length (whole found)
  count_none found none = ap chain_length (sym (none_ends found found [] none))

  -- so many legs lead from the label `at` to the label `found`
  pub record Counted (found at count : ℕ) : Type 0 where
    pub legs : List ℕ
    pub long : length legs ≡ count
    pub fuel : at + count ≤ found
    pub same : chain_from m n labels (found - count) at legs ≡ whole found

  module _ (found at count : ℕ) (so_far : Counted found at count) where
    one_less : (at ≡ 0 → ⊥) → found - count ≡ suc (found - (count + 1))
    one_less some = let f = so_far.fuel in omega arith

    pub count_on : (o : Origin) → (at ≡ 0 → ⊥) → Some o ≡ origin_at m n labels at → Counted found o.parent (count + 1)
    count_on o some e =
        let lower = below at o e in
        record {
          legs = o.leg ∷ so_far.legs;
          long = let l = so_far.long in omega arith;
          fuel = let f = so_far.fuel in omega arith;
          same = sym (ap (λ j. chain_from m n labels j at so_far.legs) (one_less some) ∙ chain_on (found - (count + 1)) at so_far.legs o some e) ∙ so_far.same;
        }

    pub count_fails : (at ≡ 0 → ⊥) → None ≡ origin_at m n labels at → None ≡ chain_length (whole found)
    count_fails some e = ap chain_length (sym (ap (λ j. chain_from m n labels j at so_far.legs) (one_less some) ∙ chain_fails (found - (count + 1)) at so_far.legs some e) ∙ so_far.same)

    pub count_ends : at ≡ 0 → 0 < n → Some count ≡ chain_length (whole found)
    count_ends first some = let ends = sym (chain_ends (found - count) at so_far.legs first) ∙ so_far.same in let long = so_far.long in grind (arith, nat_tests)

  -- the last of `count` legs stand in the buffer from `place` on, and lead from the label `at` to the label `found`
  pub record Laying (found at place count : ℕ) (buffer before : List ℕ) : Type 0 where
    pub legs : List ℕ
    pub long : length legs + place ≡ count
    pub fuel : at + length legs ≤ found
    pub same : chain_from m n labels (found - length legs) at legs ≡ whole found
    pub written : drop place buffer ≡ legs ++ drop count before

  module _ (found at place count : ℕ) (buffer before : List ℕ) (so_far : Laying found at place count buffer before) where
    -- one leg more
    link : (o : Origin) → Some o ≡ origin_at m n labels at → chain_from m n labels (found - suc (length so_far.legs)) o.parent (o.leg ∷ so_far.legs) ≡ whole found
    link o e =
        let lower = below at o e in
        let f = so_far.fuel in
        let one_fewer : found - length so_far.legs ≡ suc (found - suc (length so_far.legs)) = omega arith in
        sym (ap (λ j. chain_from m n labels j at so_far.legs) one_fewer ∙ chain_on (found - suc (length so_far.legs)) at so_far.legs o (λ first. omega arith) e) ∙ so_far.same

    pub lay_on : (o : Origin) → 0 < place → place ≤ length buffer → Some o ≡ origin_at m n labels at → (k : ℕ) → k ≡ place - 1 → Laying found o.parent (place - 1) count (set buffer k o.leg) before
    lay_on o more fits e k is =
        let lower = below at o e in
        let next : place - 1 + 1 ≡ place = omega arith in
        let inside : place - 1 < length buffer = omega arith in
        record {
          legs = o.leg ∷ so_far.legs;
          long = let l = so_far.long in omega arith;
          fuel = let f = so_far.fuel in omega arith;
          same = link o e;
          written = ap (λ i. drop (place - 1) (set buffer i o.leg)) is ∙ drop-set buffer (place - 1) o.leg inside ∙ ap (λ k. o.leg ∷ drop k buffer) next ∙ ap (λ js. o.leg ∷ js) so_far.written;
        }

    module _ (counted : Some count ≡ chain_length (whole found)) where
      -- the chain that was counted
      record Chain : Type 0 where
        legs : List ℕ
        is : whole found ≡ Some legs
        long : length legs ≡ count

      chain_of : (o : Option (List ℕ)) → whole found ≡ o → Some count ≡ chain_length o → Chain
      chain_of None e c = cc
      chain_of (Some ks) e c = record { legs = ks; is = e; long = cc }

      chain : Chain
      chain = chain_of (whole found) refl counted

      -- there is room for each leg
      pub lay_fits : (o : Origin) → Some o ≡ origin_at m n labels at → 0 < place
      lay_fits o e =
          let long = longer (found - suc (length so_far.legs)) o.parent (o.leg ∷ so_far.legs) chain.legs (link o e ∙ chain.is) in
          omega (arith, long, chain.long, so_far.long)

      -- the loop ends at the first label
      ends_first : None ≡ origin_at m n labels at → at ≡ 0 → buffer ≡ laid (whole found) before
      ends_first e first =
          let all : chain.legs ≡ so_far.legs = sym (cond_some (ltb 0 n) so_far.legs chain.legs (sym (chain_ends (found - length so_far.legs) at so_far.legs first) ∙ so_far.same ∙ chain.is)).1 in
          let none : place ≡ 0 = omega (arith, ap length all, chain.long, so_far.long) in
          ap (λ k. drop k buffer) (sym none) ∙ so_far.written ∙ ap (λ js. js ++ drop count before) (sym all) ∙ ap (λ k. chain.legs ++ drop k before) (sym chain.long) ∙ ap (λ o. laid o before) (sym chain.is)

      never_fails : None ≡ origin_at m n labels at → (at ≡ 0 → ⊥) → ⊥
      never_fails e some =
          let f = so_far.fuel in
          let one_fewer : found - length so_far.legs ≡ suc (found - suc (length so_far.legs)) = omega arith in
          let none : None ≡ whole found = sym (ap (λ j. chain_from m n labels j at so_far.legs) one_fewer ∙ chain_fails (found - suc (length so_far.legs)) at so_far.legs some e) ∙ so_far.same in
          let clash : None ≡ Some chain.legs = none ∙ chain.is in
          cc

      pub lay_ends : None ≡ origin_at m n labels at → buffer ≡ laid (whole found) before
      lay_ends e = ⊎_elim (ends_first e) (λ some. absurd (never_fails e some)) (cases_eq at 0)

-- a chain does not look beyond the labels that are recorded
module _ (m count : ℕ) (labels : List Label) where
  abbrev front : List Label
  front = take count labels

  abbrev n : ℕ
  n = min count (length labels)

  origin_front : (i : ℕ) → origin_at m n front i ≡ origin_at m n labels i
  origin_front i = grind (arith, nat_tests, get_or-take)

  chain_front : (fuel i : ℕ) (js : List ℕ) → chain_from m n front fuel i js ≡ chain_from m n labels fuel i js
  unfolding chain_from
  chain_front zero i js = refl
  chain_front (suc fuel) i js = λ j. cond (eqb i 0) (at_first n js) (by_origin (origin_front i j) (λ o. chain_front fuel o.parent (o.leg ∷ js) j))

  pub whole_front : (found : ℕ) → chain_from m (length front) front found found [] ≡ chain_from m n labels found found []
  whole_front found = ap (λ k. chain_from m k front found found []) (length-take count labels) ∙ chain_front found found []

-- what `trace` needs of the recorded labels and of the legs
pub ruleset front_chains = (nat_tests, whole_front, length-take)
