-- Where labels are linked, the chain from a label is the walk that it is traced by. Assumes nothing.
use Rattle.std.proofs.Common.{◌≡◌, ℕ, zero, suc, ◌<◌, ◌≤◌, eqb, List, [], ◌∷◌, Some, None, Option, refl, ap, ◌∙◌, arith}
use Rattle.std.proofs.lemmas.Bool.{cond-true, cond-false, eq-eqb, ne_eqb}
use Rattle.std.proofs.lemmas.Bool.Decides.{nat_tests}
use Rattle.worksheet.specs.declared.records.Label.{Label}
use Rattle.worksheet.specs.declared.records.Origin.{Origin}
use Rattle.worksheet.specs.Steps.{label_at}
use Rattle.worksheet.specs.Traces.{traced, trace}
use Rattle.worksheet.specs.Series.{Linked}
use Rattle.search.specs.Calls.{origin_at, at_first, by_origin, chain_from}

module _ (m n : ℕ) (labels : List Label) (linked : (i : ℕ) → i < n → Linked m i (label_at labels i).from) where
  -- The chain ends at label 0.
  ends : (js : List ℕ) → 0 < n → at_first n js ≡ Some js
  ends js h = grind (arith, nat_tests)

  -- No origin leads outside.
  origin_is : (i : ℕ) (o : Origin) → (label_at labels i).from ≡ Some o → Linked m i (Some o) → i < n → origin_at m n labels i ≡ Some o
  origin_is i o e l b = grind (arith, nat_tests)

  chain_traced : (fuel i : ℕ) (o : Option Origin) → (label_at labels i).from ≡ o → Linked m i o → i ≤ fuel → i < n → (js : List ℕ) → chain_from m n labels fuel i js ≡ Some (traced labels fuel o js)
  unfolding chain_from
  chain_traced zero i o e l h b js = ends js (omega arith)
  chain_traced (suc fuel) i None e l h b js = cond-true (eqb i 0) (at_first n js) _ (eq-eqb i 0 l) ∙ ends js (omega arith)
  chain_traced (suc fuel) i (Some o) e l h b js =
      cond-false (eqb i 0) (at_first n js) _ (ne_eqb i 0 (λ z. omega (arith, l.0)))
      ∙ ap (λ (x : Option Origin). by_origin x (λ y. chain_from m n labels fuel y.parent (y.leg ∷ js))) (origin_is i o e l b)
      ∙ chain_traced fuel o.parent (label_at labels o.parent).from refl (linked o.parent (omega (arith, l.0))) (omega (arith, l.0)) (omega (arith, l.0)) (o.leg ∷ js)

  pub chain_is_trace : (i : ℕ) → i < n → chain_from m n labels i i [] ≡ Some (trace labels i)
  chain_is_trace i b = chain_traced i i (label_at labels i).from refl (linked i b) (omega arith) b []
