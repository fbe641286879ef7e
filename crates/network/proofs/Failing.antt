-- The search for the first leg that does not pass a test. Assumes nothing.
use Rattle.std.proofs.Common.{◌≡◌, ℕ, zero, suc, ◌+◌, ◌<◌, ◌≤◌, Bool, true, false, cond, not, List, [], ◌∷◌, length, get_or, Some, None, Option, refl, sym, ◌∙◌, arith}
use Rattle.std.specs.List.{position, position_or_len}
use Rattle.std.proofs.lemmas.Bool.{not-false}
use Rattle.std.proofs.lemmas.Bool.Decides.{nat_tests}
use Rattle.std.proofs.lemmas.Iterator.Adapters.{position_from-zero}
use Rattle.std.proofs.lemmas.List.Sums.{fails_before_first}
use Rattle.network.specs.declared.legs.Leg.{Leg}
use Rattle.network.specs.Checks.{first_failing}

module _ (passes : Leg → Bool) (legs : List Leg) where
  abbrev fails : Leg → Bool
  fails leg = not (passes leg)

  -- what `position` finds is the first leg that does not pass
  pub first_by_position : (r : Option ℕ) → r ≡ position fails legs → r ≡ first_failing passes 0 legs
  unfolding first_failing
  first_by_position r e = e ∙ position_from-zero fails legs

  -- where none fails, each passes
  pub all_pass : None ≡ first_failing passes 0 legs → (j : ℕ) (d : Leg) → j < length legs → passes (get_or legs j d) ≡ true
  unfolding first_failing
  all_pass e j d h =
      let none : None ≡ position fails legs = e ∙ sym (position_from-zero fails legs) in
      let whole : length legs ≤ position_or_len fails legs = grind (arith, nat_tests) in
      not-false _ (fails_before_first fails legs j d (omega arith))

-- the leg that fails, counted from i, and what is known of it
module _ (passes : Leg → Bool) (d : Leg) where
  pub record Fails (i : ℕ) (legs : List Leg) (j : ℕ) : Type 0 where
    pub place : ℕ
    pub number : j ≡ i + place
    pub below : place < length legs
    pub fails : passes (get_or legs place d) ≡ false
    pub earlier : (k : ℕ) → k < place → passes (get_or legs k d) ≡ true

  earlier_too : (leg : Leg) (legs : List Leg) (n : ℕ) → passes leg ≡ true → ((k : ℕ) → k < n → passes (get_or legs k d) ≡ true) → (k : ℕ) → k < suc n → passes (get_or (leg ∷ legs) k d) ≡ true
  earlier_too leg legs n e f zero h = e
  earlier_too leg legs n e f (suc k) h = f k (omega arith)

  fails_by : (i : ℕ) (leg : Leg) (legs : List Leg) (j : ℕ) (b : Bool) → passes leg ≡ b → cond (not b) (Some i) (first_failing passes (i + 1) legs) ≡ Some j → (first_failing passes (i + 1) legs ≡ Some j → Fails (i + 1) legs j) → Fails i (leg ∷ legs) j
  fails_by i leg legs j false e f later = let same : j ≡ i = cc in record { place = 0; number = omega arith; below = omega arith; fails = e; earlier = λ k h. absurd (omega arith) }
  fails_by i leg legs j true e f later =
      let x = later f in
      record { place = suc x.place; number = omega (arith, x.number); below = omega (arith, x.below); fails = x.fails; earlier = earlier_too leg legs x.place e x.earlier }

  pub first_fails : (i : ℕ) (legs : List Leg) (j : ℕ) → first_failing passes i legs ≡ Some j → Fails i legs j
  unfolding first_failing
  first_fails i [] j e = cc
  first_fails i (leg ∷ legs) j e = fails_by i leg legs j (passes leg) refl e (λ f. first_fails (i + 1) legs j f)
