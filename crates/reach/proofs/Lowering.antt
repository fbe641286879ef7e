-- A record that is lowered, or stays. Assumes nothing.
use Rattle.std.proofs.Common.{◌≡◌, ℕ, ◌<◌, ◌≤◌, min, List, length, get_or, set, sym, ap, ◌∙◌, arith}
use lib.Seq.{set-get_or}
use Rattle.std.proofs.lemmas.Grind.{common_steps}
use Rattle.reach.specs.Passes.{lowered}

module _ (xs : List ℕ) (i value : ℕ) where
  -- where the value is not less, the table stays
  pub lowered_stays : get_or xs i 0 ≤ value → xs ≡ lowered xs i value
  lowered_stays h =
      let e : get_or xs i 0 ≡ min (get_or xs i 0) value = omega arith in
      sym (set-get_or xs i 0) ∙ ap (λ x. set xs i x) e

  -- a record of 0 stays 0
  pub zero_stays : (k : ℕ) → i < length xs → get_or xs k 0 ≡ 0 → get_or (lowered xs i value) k 0 ≡ 0
  zero_stays k h z = grind (arith, common_steps)
