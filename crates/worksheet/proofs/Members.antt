-- Membership in a list, and in a bag, with one element more. Assumes nothing.
use Rattle.std.proofs.Common.{◌≡◌, suc, List, [], ◌∷◌, refl, subst, ⊎_elim, arith}
use Rattle.std.specs.List.{ContainsAt as Has}
use Rattle.queue.specs.declared.entry.Entry.{Entry}
use Rattle.queue.specs.Bag.{insert}
use Rattle.queue.proofs.Bags.{has_cases, has_insert_cases}

-- An empty list has nothing; a longer one has its first element and the others.
pub has_none : {X : Type 0} (y : X) → Has [] y → ⊥
has_none y h = omega (arith, h.1)

pub has_first : {X : Type 0} (x : X) (xs : List X) → Has (x ∷ xs) x
has_first x xs = (0, omega arith, λ d. refl)

pub has_rest : {X : Type 0} (x : X) (xs : List X) (y : X) → Has xs y → Has (x ∷ xs) y
has_rest x xs y h = (suc h.0, omega (arith, h.1), h.2)

-- What holds of the new element and of the others holds of each.
pub each_cons : {X : Type 0} (P : X → Type 0) (x : X) (xs : List X) → P x → ((y : X) → Has xs y → P y) → (y : X) → Has (x ∷ xs) y → P y
each_cons P x xs here there y h = ⊎_elim (λ (e : x ≡ y). subst P e here) (λ (k : Has xs y). there y k) (has_cases x xs y h)

pub each_insert : (P : Entry → Type 0) (e : Entry) (b : List Entry) → P e → ((y : Entry) → Has b y → P y) → (y : Entry) → Has (insert e b) y → P y
each_insert P e b here there y h = ⊎_elim (λ (q : e ≡ y). subst P q here) (λ (k : Has b y). there y k) (has_insert_cases e b y h)
