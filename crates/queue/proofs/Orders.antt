-- The order of entries is a strict total order.
-- Assumes nothing.
use Rattle.std.proofs.Common.{◌≡◌, ℕ, ◌<◌, ◌≤◌, Bool, true, false, ◌⊎◌, Ordering, Less, Equal, Greater, sym, refl, ap, ◌∙◌, subst, inl, inr, true≢false, arith}
use Rattle.std.proofs.lemmas.List.MinMax.{ranks_by}
use Rattle.std.specs.Cmp.{IsTotalOrder, nat_cmp_total, nat_cmp_is, ranks, then_total, on_total, IsStrictWeakOrder}
use Rattle.std.specs.Ordering.{is_lt, ordering_reverse, ordering_then, MatchOrdering, nat_cmp}
use Rattle.queue.specs.declared.entry.Entry.{Entry}
use Rattle.queue.specs.Order.{compared, before}

-- The order of entries is lawful since that of numbers is: one field, and then the next.
abbrev pub total : IsTotalOrder compared
total =
    then_total (on_total (λ (e : Entry). e.estimate) nat_cmp_total)
    (then_total (on_total (λ (e : Entry). e.cost) nat_cmp_total)
    (then_total (on_total (λ (e : Entry). e.delay) nat_cmp_total) (on_total (λ (e : Entry). e.label) nat_cmp_total)))

pub compared_flip : (x y : Entry) → compared x y ≡ ordering_reverse (compared y x)
compared_flip = total.antisymm

pub ranked : IsStrictWeakOrder before
ranked = ranks_by total (λ (e : Entry). e)

-- Asymmetric: of two entries at most one comes before the other.
pub before_asymmetric : (x y : Entry) → before x y ≡ true → before y x ≡ false
before_asymmetric = ranked.one_way

itself : (x : Entry) (b : Bool) → before x x ≡ b → before x x ≡ false
itself x true h = before_asymmetric x x h
itself x false h = h

pub before_irreflexive : (x : Entry) → before x x ≡ false
before_irreflexive x = itself x _ refl

-- A chain of entries none of which comes before the one ahead of it.
pub not_before_chain : (x y z : Entry) → before x y ≡ false → before y z ≡ false → before x z ≡ false
not_before_chain = ranked.chain

both_equal : (a b : Ordering) → ordering_then a b ≡ Equal → (a ≡ Equal) × (b ≡ Equal)
both_equal a b h = (grind arith, grind arith)

same_number : (a b : ℕ) → nat_cmp a b ≡ Equal → a ≡ b
same_number a b h = subst (λ k. MatchOrdering k (a < b) (a ≡ b) (b < a)) h (ranks a b)

-- Entries that compare as equal are the same.
pub compared_equal : (x y : Entry) → compared x y ≡ Equal → x ≡ y
compared_equal x y h =
    let h1 = both_equal _ _ h in
    let h2 = both_equal _ _ h1.1 in
    let h3 = both_equal _ _ h2.1 in
    let a : x.estimate ≡ y.estimate = same_number _ _ h1.0 in
    let b : x.cost ≡ y.cost = same_number _ _ h2.0 in
    let c : x.delay ≡ y.delay = same_number _ _ h3.0 in
    let d : x.label ≡ y.label = same_number _ _ h3.1 in
    λ i. record { estimate = a i; cost = b i; delay = c i; label = d i }

by_answer : (x y : Entry) (r : Ordering) → compared x y ≡ r → (before x y ≡ true) ⊎ ((before y x ≡ true) ⊎ (x ≡ y))
by_answer x y Less h = inl (ap is_lt h)
by_answer x y Equal h = inr (inr (compared_equal x y h))
by_answer x y Greater h = inr (inl (ap is_lt (compared_flip y x ∙ ap ordering_reverse h)))

-- Total: of two entries that are not the same one comes before the other.
pub before_total : (x y : Entry) → (before x y ≡ true) ⊎ ((before y x ≡ true) ⊎ (x ≡ y))
before_total x y = by_answer x y _ refl

-- Antisymmetric: entries of which neither comes before the other are the same.
pub before_antisymmetric : (x y : Entry) → before x y ≡ false → before y x ≡ false → x ≡ y
before_antisymmetric x y h k = let one = before_total x y in grind arith

-- What is left to compare, past the estimate, past the cost, and past the delay.
abbrev past_estimate : Entry → Entry → Ordering
past_estimate x y = ordering_then (nat_cmp x.cost y.cost) (ordering_then (nat_cmp x.delay y.delay) (nat_cmp x.label y.label))

abbrev past_cost : Entry → Entry → Ordering
past_cost x y = ordering_then (nat_cmp x.delay y.delay) (nat_cmp x.label y.label)

abbrev past_delay : Entry → Entry → Ordering
past_delay x y = nat_cmp x.label y.label

lesser : (a b : ℕ) (rest : Ordering) → a < b → is_lt (ordering_then (nat_cmp a b) rest) ≡ true
lesser a b rest h = sym (ap (λ o. is_lt (ordering_then o rest)) (nat_cmp_is a b Less h))

level : (a b : ℕ) (rest : Ordering) → a ≡ b → is_lt (ordering_then (nat_cmp a b) rest) ≡ is_lt rest
level a b rest h = sym (ap (λ o. is_lt (ordering_then o rest)) (nat_cmp_is a b Equal h))

-- What comes before what, in numbers: the first field that differs decides.
pub before_by_estimate : (x y : Entry) → x.estimate < y.estimate → before x y ≡ true
before_by_estimate x y h = lesser x.estimate y.estimate (past_estimate x y) h

at_estimate : (x y : Entry) → x.estimate ≡ y.estimate → before x y ≡ is_lt (past_estimate x y)
at_estimate x y h = level x.estimate y.estimate (past_estimate x y) h

pub before_by_cost : (x y : Entry) → x.estimate ≡ y.estimate → x.cost < y.cost → before x y ≡ true
before_by_cost x y h k = at_estimate x y h ∙ lesser x.cost y.cost (past_cost x y) k

at_cost : (x y : Entry) → x.estimate ≡ y.estimate → x.cost ≡ y.cost → before x y ≡ is_lt (past_cost x y)
at_cost x y h k = at_estimate x y h ∙ level x.cost y.cost (past_cost x y) k

pub before_by_delay : (x y : Entry) → x.estimate ≡ y.estimate → x.cost ≡ y.cost → x.delay < y.delay → before x y ≡ true
before_by_delay x y h k l = at_cost x y h k ∙ lesser x.delay y.delay (past_delay x y) l

-- The other way round: where y does not come before x, the first field that differs is less in x.
pub not_before_estimate : (x y : Entry) → before y x ≡ false → x.estimate ≤ y.estimate
not_before_estimate x y h = let n : y.estimate < x.estimate → ⊥ = λ l. true≢false (sym (before_by_estimate y x l) ∙ h) in omega arith

pub not_before_cost : (x y : Entry) → before y x ≡ false → x.estimate ≡ y.estimate → x.cost ≤ y.cost
not_before_cost x y h p = let n : y.cost < x.cost → ⊥ = λ l. true≢false (sym (before_by_cost y x (sym p) l) ∙ h) in omega arith

pub not_before_delay : (x y : Entry) → before y x ≡ false → x.estimate ≡ y.estimate → x.cost ≡ y.cost → x.delay ≤ y.delay
not_before_delay x y h p q = let n : y.delay < x.delay → ⊥ = λ l. true≢false (sym (before_by_delay y x (sym p) (sym q) l) ∙ h) in omega arith
