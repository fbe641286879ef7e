-- The refusal of an open has the lowest number that applies; where none applies, it is accepted. Assumes nothing.
use Rattle.std.proofs.Common.{◌≡◌, ℕ, ◌+◌, ◌<◌, ◌≤◌, Bool, true, false, ◌&&◌, List, length, get_or, Some, None, Option, sym, refl, subst, arith}
use Rattle.std.proofs.lemmas.Bool.{both_ways}
use Rattle.std.proofs.lemmas.Bool.Decides.{nat_tests}
use Rattle.network.specs.declared.legs.Leg.{Leg}
use Rattle.network.specs.declared.refusals.Place.{Place}
use Rattle.network.specs.declared.refusals.Refusal.{Refusal}
use Rattle.network.specs.declared.refusals.Refusal.TheVariants as why
use Rattle.network.specs.Checks.{legs_of, first_failing, unless, unless_leg, sizes_fit, network_refusal}
use Rattle.network.specs.Legs.{leg_in_range}
use Rattle.network.specs.Refusals.{number_of, place_of}
use Rattle.network.specs.Walks.{no_leg}
use Rattle.network.proofs.Failing.{all_pass, first_fails}
use Rattle.network.proofs.Checking.{accepted, not_refused, refused_by}
use Rattle.worksheet.specs.declared.records.Query.{Query}
use Rattle.worksheet.specs.Problem.{Setting}
use Rattle.search.specs.Calls.{limit_fits, ends_fit, tables_fit, is_reached, leg_lawful, open_refusal}
use Rattle.search.specs.Numbers.{FirstFailure, Applies, size, leg_range, site, room, goal_estimate, leg_estimate, RefusedBy, NoneApplies}

-- the leg that fails is the first that does not pass
first_failure : (passes : Leg → Bool) (legs : List Leg) (j : ℕ) → first_failing passes 0 legs ≡ Some j → FirstFailure passes legs j
first_failure passes legs j f =
    let first = first_fails passes no_leg 0 legs j f in
    let here : first.place ≡ j = omega (arith, first.number) in
    subst (FirstFailure passes legs) here (record { is_leg = first.below; fails = first.fails; earlier_pass = first.earlier })

module _ (s : Setting) (q : Query) where
  -- Decided by the tests of the numbers from n on: which of them is the lowest that applies, or that none does.
  abbrev Decided : ℕ → Option Refusal → Type 0
  Decided n None = (k : ℕ) (p : Option Place) → n ≤ k → Applies s q k p → ⊥
  Decided n (Some w) = Applies s q (number_of w) (place_of w) × ((k : ℕ) (p : Option Place) → n ≤ k → k < number_of w → Applies s q k p → ⊥)

  -- The number n does not apply.
  abbrev Passed : ℕ → Type 0
  Passed n = (k : ℕ) (p : Option Place) → k ≡ n → Applies s q k p → ⊥

  below_or_at : (n k : ℕ) → n ≤ k → (k ≡ n → ⊥) → n + 1 ≤ k
  below_or_at n k h e = omega arith

  passed_on : (n : ℕ) (o : Option Refusal) → Passed n → Decided (n + 1) o → Decided n o
  passed_on n None pass d = λ k p h a. d k p (below_or_at n k h (λ e. pass k p e a)) a
  passed_on n (Some w) pass d = (d.0, λ k p h l a. d.1 k p (below_or_at n k h (λ e. pass k p e a)) l a)

  -- A test with a number of its own.
  by_test : (n : ℕ) (b : Bool) (w : Refusal) (rest : Option Refusal) → number_of w ≡ n → (b ≡ false → Applies s q (number_of w) (place_of w)) → (b ≡ true → Passed n) → Decided (n + 1) rest → Decided n (unless b w rest)
  by_test n true w rest e fails passes d = passed_on n rest (passes refl) d
  by_test n false w rest e fails passes d = (fails refl, λ k p h l a. omega arith)

  -- A test of all legs.
  by_legs : (n : ℕ) (passes : Leg → Bool) (w : ℕ → Refusal) (rest : Option Refusal) (o : Option ℕ) → first_failing passes 0 (legs_of s.net s.table) ≡ o → ((j : ℕ) → number_of (w j) ≡ n)
      → ((j : ℕ) → FirstFailure passes (legs_of s.net s.table) j → Applies s q (number_of (w j)) (place_of (w j)))
      → (((j : ℕ) → j < length (legs_of s.net s.table) → passes (get_or (legs_of s.net s.table) j no_leg) ≡ true) → Passed n)
      → Decided (n + 1) rest → Decided n (unless_leg w o rest)
  by_legs n passes w rest None f e fails pass d = passed_on n rest (pass (λ j h. all_pass passes (legs_of s.net s.table) (sym f) j no_leg h)) d
  by_legs n passes w rest (Some j) f e fails pass d = (fails j (first_failure passes (legs_of s.net s.table) j f), λ k p h l a. omega (arith, e j))

  -- Where a test passes, its number does not apply.
  sizes_pass : (limit_fits q && sizes_fit s.net (length s.table)) ≡ true → Passed 8
  sizes_pass t k p e (size f) = both_ways _ f t
  sizes_pass t k p e a = omega arith

  legs_pass : ((j : ℕ) → j < length (legs_of s.net s.table) → leg_in_range s.net.sites (get_or (legs_of s.net s.table) j no_leg) ≡ true) → Passed 9
  legs_pass t k p e (leg_range j f) = both_ways _ f.fails (t j f.is_leg)
  legs_pass t k p e a = omega arith

  ends_pass : ends_fit s.net q ≡ true → Passed 10
  ends_pass t k p e (site f) = both_ways _ f t
  ends_pass t k p e a = omega arith

  tables_pass : tables_fit s.net.sites s.labels s.records s.capacity ≡ true → Passed 11
  tables_pass t k p e (room f) = both_ways _ f t
  tables_pass t k p e a = omega arith

  estimates_pass : is_reached (s.at q.goal) ≡ true → ((j : ℕ) → j < length (legs_of s.net s.table) → leg_lawful s (get_or (legs_of s.net s.table) j no_leg) ≡ true) → Passed 12
  estimates_pass g t k p e (goal_estimate f) = both_ways _ f g
  estimates_pass g t k p e (leg_estimate j h f) = both_ways _ f.fails (t j f.is_leg)
  estimates_pass g t k p e a = omega arith

  -- There is no number above 12.
  no_more : Decided 13 None
  no_more k p h (size f) = omega arith
  no_more k p h a = omega arith

  -- The two tests of the estimate have one number.
  estimate_decided : (b : Bool) → is_reached (s.at q.goal) ≡ b → Decided 12 (unless b why.GoalEstimate (unless_leg why.LegEstimate (first_failing (leg_lawful s) 0 (legs_of s.net s.table)) None))
  estimate_decided true e = by_legs 12 (leg_lawful s) why.LegEstimate None _ refl (λ j. refl) (λ j f. leg_estimate j e f) (estimates_pass e) no_more
  estimate_decided false e = (goal_estimate e, λ k p h l a. omega arith)

  -- So have the limit and the sizes.
  both_sizes : (a b : Bool) (rest : Option Refusal) → unless a why.Size (unless b why.Size rest) ≡ unless (a && b) why.Size rest
  both_sizes a b rest = grind arith

  decided : Decided 8 (open_refusal s q)
  unfolding open_refusal network_refusal
  decided = subst (λ (o : Option Refusal). Decided 8 o) (sym (both_sizes (limit_fits q) (sizes_fit s.net (length s.table)) _))
      (by_test 8 (limit_fits q && sizes_fit s.net (length s.table)) why.Size _ refl size sizes_pass
      (by_legs 9 (leg_in_range s.net.sites) why.LegRange _ _ refl (λ j. refl) leg_range legs_pass
      (by_test 10 (ends_fit s.net q) why.Site _ refl site ends_pass
      (by_test 11 (tables_fit s.net.sites s.labels s.records s.capacity) why.Room _ refl room tables_pass
      (estimate_decided (is_reached (s.at q.goal)) refl)))))

  above_seven : (k : ℕ) (p : Option Place) → Applies s q k p → 8 ≤ k
  above_seven k p (size f) = omega arith
  above_seven k p a = omega arith

  pub refused_by_number : (w : Refusal) → open_refusal s q ≡ Some w → RefusedBy s q w
  refused_by_number w e = let d = subst (λ (o : Option Refusal). Decided 8 o) e decided in record { applies = d.0; is_lowest = λ k p l a. d.1 k p (above_seven k p a) l a }

  pub accepted_by_number : open_refusal s q ≡ None → NoneApplies s q
  accepted_by_number e k p a = let d = subst (λ (o : Option Refusal). Decided 8 o) e decided in d k p (above_seven k p a) a

-- what `open` needs of its tests and of its refusal
pub ruleset of_open = (nat_tests, accepted, not_refused, refused_by, accepted_by_number, refused_by_number)
