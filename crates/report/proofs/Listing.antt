-- What is written number by number, field by field. Assumes nothing.
use Rattle.std.proofs.Common.{◌≡◌, ℕ, ◌+◌, ◌/◌, ◌%◌, ◌^◌, ◌<◌, ◌≤◌, List, [], ◌∷◌, ◌++◌, length, get_or, drop, decimal, sym, refl, ap, ◌∙◌, append_assoc, add-one, drop-cons}
use Rattle.std.proofs.lemmas.Fmt.{decimal_digit, decimal_step}
use Rattle.std.proofs.lemmas.List.{append-nil, drop_all}
use Rattle.sheet.specs.Writing.{listed}

-- One digit, or the digits of a tenth and one more.
pub number_short : (old new : List ℕ) (n : ℕ) → n < 10 → new ≡ old ++ ((48 + n) ∷ []) → new ≡ old ++ decimal n
number_short old new n h e = e ∙ ap (λ ds. old ++ ds) (sym (decimal_digit n h))

pub number_long : (old front new : List ℕ) (n : ℕ) → 10 ≤ n → n < 2 ^ 64 → front ≡ old ++ decimal (n / 10) → new ≡ front ++ ((48 + n % 10) ∷ []) → new ≡ old ++ decimal n
number_long old front new n h b e f =
    f ∙ ap (λ xs. xs ++ ((48 + n % 10) ∷ [])) e ∙ append_assoc old (decimal (n / 10)) _ ∙ ap (λ ds. old ++ ds) (sym (decimal_step n h b))

-- One piece after another.
pub two_pieces : (old front new a b : List ℕ) → front ≡ old ++ a → new ≡ front ++ b → new ≡ old ++ (a ++ b)
two_pieces old front new a b e f = f ∙ ap (λ xs. xs ++ b) e ∙ append_assoc old a b

-- One field more of those that are left.
pub listed_more : (now next ns : List ℕ) (i : ℕ) → i < length ns → next ≡ now ++ (44 ∷ decimal (get_or ns i 0)) → next ++ listed (drop (i + 1) ns) ≡ now ++ listed (drop i ns)
unfolding listed
listed_more now next ns i h e =
    ap (λ xs. xs ++ listed (drop (i + 1) ns)) e ∙ append_assoc now (44 ∷ decimal (get_or ns i 0)) (listed (drop (i + 1) ns))
    ∙ ap (λ xs. now ++ listed xs) (sym (drop-cons ns i 0 h ∙ ap (λ k. get_or ns i 0 ∷ drop k ns) (sym (add-one i))))

-- None is left.
pub listed_end : (now ns : List ℕ) (i : ℕ) → length ns ≤ i → now ≡ now ++ listed (drop i ns)
unfolding listed
listed_end now ns i h = sym (append-nil now) ∙ ap (λ xs. now ++ listed xs) (sym (drop_all i ns h))

-- Fields after fields.
pub listed_append : (ns ms : List ℕ) → listed (ns ++ ms) ≡ listed ns ++ listed ms
unfolding listed
listed_append [] ms = refl
listed_append (n ∷ ns) ms = ap (λ xs. (44 ∷ decimal n) ++ xs) (listed_append ns ms) ∙ sym (append_assoc (44 ∷ decimal n) (listed ns) (listed ms))

-- The pieces of a line, one after another.
pub line_pieces : (old a b c new word ns ms : List ℕ) → a ≡ old ++ word → b ≡ a ++ listed ns → c ≡ b ++ listed ms → new ≡ c ++ (10 ∷ []) → new ≡ old ++ (word ++ (listed (ns ++ ms) ++ (10 ∷ [])))
line_pieces old a b c new word ns ms e f g h =
    let fields : c ≡ a ++ listed (ns ++ ms) = two_pieces a b c (listed ns) (listed ms) f g ∙ ap (λ xs. a ++ xs) (sym (listed_append ns ms)) in
    two_pieces old a new word (listed (ns ++ ms) ++ (10 ∷ [])) e (two_pieces a c new (listed (ns ++ ms)) (10 ∷ []) fields h)
