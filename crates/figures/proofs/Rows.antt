-- What holds of a list of so many elements, whatever they are. Assumes nothing.
use Rattle.std.proofs.Common.{◌≡◌, ℕ, zero, suc, List, [], ◌∷◌, length, arith}

-- P of every list of n elements, element by element, so that it computes
abbrev pub Rows : {X : Type 0} → ℕ → (List X → Type 0) → Type 0
Rows {X} zero P = P []
Rows {X} (suc n) P = (x : X) → Rows n (λ more. P (x ∷ more))

pub rows : {X : Type 0} (n : ℕ) (P : List X → Type 0) → Rows n P → (xs : List X) → length xs ≡ n → P xs
rows zero P h [] e = h
rows zero P h (x ∷ xs) e = absurd (omega arith)
rows (suc n) P h [] e = absurd (omega arith)
rows (suc n) P h (x ∷ xs) e = rows n (λ more. P (x ∷ more)) (h x) xs (omega arith)
