-- Text laid into a buffer, piece by piece. Assumes nothing.
use Rattle.std.proofs.Common.{◌≡◌, ℕ, zero, suc, ◌+◌, ◌-◌, ◌*◌, ◌/◌, ◌%◌, ◌^◌, ◌<◌, ◌≤◌, true, List, [], ◌∷◌, ◌++◌, length, get_or, take, drop, set, None, Some, Ok, Option, IfNone, IfSome, unwrap_or, codes, decimal, sym, refl, ap, ◌∙◌, append_assoc, add-zero, add_assoc, arith, length-append, length-drop, length-set}
use Rattle.std.proofs.lemmas.Fmt.{decimal_by_steps, decimal_digit, decimal_step, length-decimal-le}
use Rattle.std.proofs.Math.Nat.{pow-suc, one-le-pow}
use Rattle.std.proofs.lemmas.List.{append-nil, drop_all, take_rest, drop_more, drop-drop, drop_at, take_at, set_at, length_push, length-take-le, take-append-drop, at_drop_more, at_drop_all}
use Rattle.std.proofs.lemmas.List.Elements.{All-from_get_or}
use Rattle.std.proofs.lemmas.List.Recursion.{is_sum_by}
use Rattle.std.proofs.lemmas.List.Sums.{sum_by-le}
use Rattle.std.specs.List.{sum_by}
use Rattle.std.proofs.lemmas.Bool.{cond-true, le-leb}
use Rattle.network.specs.declared.legs.Leg.{Leg}
use Rattle.network.specs.Legs.{leg_in_range}
use borrow.Rule.Slice.PartMut.{put_mid}
use Rattle.sheet.proofs.Cutting.{from}
use Rattle.sheet.specs.Writing.{laid, listed, leg_numbers, leg_text, written}

pub laid_none : (at : ℕ) (b : List ℕ) → laid [] at b ≡ b
laid_none at b = ap (λ n. take at b ++ drop n b) (add-zero at) ∙ take-append-drop at b

module _ (t : List ℕ) (at : ℕ) (b : List ℕ) where
  -- what stands before the end of the text
  front_length : at + length t ≤ length b → length (take at b ++ t) ≡ at + length t
  front_length le =
      let e = length-take-le at b (omega arith) in
      length-append (take at b) t ∙ ap (λ n. n + length t) e

  pub laid_push : (x : ℕ) → at + length t < length b → set (laid t at b) (at + length t) x ≡ laid (t ++ x ∷ []) at b
  laid_push x lt =
      let k = at + length t in
      ap (λ l. set l k x) (sym (append_assoc (take at b) t (drop k b)))
      ∙ ap (λ l. set ((take at b ++ t) ++ l) k x) (drop_more b k 0 lt)
      ∙ set_at (take at b ++ t) (get_or b k 0) (drop (k + 1) b) x k (front_length (omega arith))
      ∙ append_assoc (take at b) t (x ∷ drop (k + 1) b)
      ∙ ap (λ l. take at b ++ l) (sym (append_assoc t (x ∷ []) (drop (k + 1) b)))
      ∙ ap (λ n. take at b ++ ((t ++ x ∷ []) ++ drop n b)) (add_assoc at (length t) 1 ∙ ap (λ n. at + n) (sym (length_push t x)))

  pub laid_laid : (u : List ℕ) → at + length t ≤ length b → laid u (at + length t) (laid t at b) ≡ laid (t ++ u) at b
  laid_laid u le =
      let k = at + length t in
      let l = laid t at b in
      let e : l ≡ (take at b ++ t) ++ drop k b = sym (append_assoc (take at b) t (drop k b)) in
      let f : take k l ≡ take at b ++ t = ap (take k) e ∙ take_at (take at b ++ t) (drop k b) k (front_length le) in
      let d : drop k l ≡ drop k b = ap (drop k) e ∙ drop_at (take at b ++ t) (drop k b) k (front_length le) in
      let g : drop (k + length u) l ≡ drop (k + length u) b = sym (drop-drop (length u) k l) ∙ ap (drop (length u)) d ∙ drop-drop (length u) k b in
      ap (λ p. p ++ (u ++ drop (k + length u) l)) f
      ∙ ap (λ p. (take at b ++ t) ++ (u ++ p)) g
      ∙ append_assoc (take at b) t (u ++ drop (k + length u) b)
      ∙ ap (λ p. take at b ++ p) (sym (append_assoc t u (drop (k + length u) b)))
      ∙ ap (λ n. take at b ++ ((t ++ u) ++ drop n b)) (add_assoc at (length t) (length u) ∙ ap (λ n. at + n) (sym (length-append t u)))

pub length_from : (at : ℕ) (b : List ℕ) → length (from at b) ≡ length b - at
length_from at b = ap length (take_rest b at) ∙ length-drop at b

-- a text at the start of the part of a buffer from a place on
pub laid_part : (t : List ℕ) (at : ℕ) (b ys : List ℕ) → at ≤ length b → ys ≡ laid t 0 (from at b) → put_mid at (length b - at) b ys ≡ laid t at b
laid_part t at b ys le e =
    let n = length-drop at b in
    let z : 0 + length t ≡ length t = omega arith in
    let f : ys ≡ t ++ drop (at + length t) b = e ∙ ap (λ x. laid t 0 x) (take_rest b at) ∙ ap (λ k. t ++ drop k (drop at b)) z ∙ ap (λ x. t ++ x) (drop-drop (length t) at b) in
    ap (λ x. take at b ++ (ys ++ x)) (drop_all (length b - at) (drop at b) (omega arith))
    ∙ ap (λ x. take at b ++ x) (append-nil ys ∙ f)

pub laid_one : (at x : ℕ) (b : List ℕ) → at < length b → set b at x ≡ laid (x ∷ []) at b
laid_one at x b lt =
    let lt' : at + 0 < length b = omega arith in
    ap (λ l. set l at x) (sym (laid_none at b)) ∙ ap (λ n. set (laid [] at b) n x) (sym (add-zero at)) ∙ laid_push [] at b x lt'

-- a comma and a number
pub laid_number : (at n : ℕ) (b : List ℕ) → at + length (44 ∷ decimal n) ≤ length b → laid (decimal n) (at + 1) (set b at 44) ≡ laid (44 ∷ decimal n) at b
laid_number at n b le = ap (laid (decimal n) (at + 1)) (laid_one at 44 b (omega arith)) ∙ laid_laid (44 ∷ []) at b (decimal n) (omega arith)

listed_more : (ns : List ℕ) (i : ℕ) → i < length ns → listed (drop i ns) ≡ (44 ∷ decimal (get_or ns i 0)) ++ listed (drop (i + 1) ns)
unfolding listed
listed_more ns i lt = at_drop_more listed ns i 0 lt

-- what is listed, counted
abbrev pub listed_len : List ℕ → ℕ
listed_len ns = sum_by (λ n. 1 + length (decimal n)) ns

pub length_listed : (ns : List ℕ) → length (listed ns) ≡ listed_len ns
unfolding listed
length_listed = is_sum_by (λ ns. length (listed ns)) (λ n. 1 + length (decimal n)) refl (λ n ns. let e = length-append (44 ∷ decimal n) (listed ns) in omega arith)

pub listed_len_within : (ns : List ℕ) → ((i : ℕ) → i < length ns → get_or ns i 0 < 2 ^ 64) → listed_len ns ≤ length ns * 21
listed_len_within ns fit = sum_by-le (λ n. 1 + length (decimal n)) 21 ns (All-from_get_or (λ n. 1 + length (decimal n) ≤ 21) ns 0 (λ i lt. let f = fit i lt in let k = length-decimal-le 20 (get_or ns i 0) (omega arith) (omega arith) f in omega arith))

-- the steps of the count and of the laying
pub count_more : (ns : List ℕ) (i : ℕ) → i < length ns → length (listed (drop i ns)) ≡ 1 + length (decimal (get_or ns i 0)) + length (listed (drop (i + 1) ns))
count_more ns i lt =
    let e = ap length (listed_more ns i lt) ∙ length-append (44 ∷ decimal (get_or ns i 0)) (listed (drop (i + 1) ns)) in
    omega arith

pub listed_none : (ns : List ℕ) (i : ℕ) → length ns ≤ i → listed (drop i ns) ≡ []
unfolding listed
listed_none ns i le = at_drop_all listed ns i le

pub lay_more : (ns : List ℕ) (i at next : ℕ) (b ys : List ℕ) → i < length ns → at + length (listed (drop i ns)) ≤ length b → next ≡ at + (1 + length (decimal (get_or ns i 0))) → ys ≡ laid (decimal (get_or ns i 0)) 0 (from (at + 1) (set b at 44)) → laid (listed (drop (i + 1) ns)) next (put_mid (at + 1) (length (set b at 44) - (at + 1)) (set b at 44) ys) ≡ laid (listed (drop i ns)) at b
lay_more ns i at next b ys lt le w e =
    let n = get_or ns i 0 in
    let r = listed (drop (i + 1) ns) in
    let c = count_more ns i lt in
    let fits : at + length (44 ∷ decimal n) ≤ length b = omega arith in
    let l = length-set b at 44 in
    let w' : next ≡ at + length (44 ∷ decimal n) = omega arith in
    ap (λ p. laid r p (put_mid (at + 1) (length (set b at 44) - (at + 1)) (set b at 44) ys)) w'
    ∙ ap (laid r (at + length (44 ∷ decimal n))) (laid_part (decimal n) (at + 1) (set b at 44) ys (omega arith) e ∙ laid_number at n b fits)
    ∙ laid_laid (44 ∷ decimal n) at b r fits
    ∙ ap (λ t. laid t at b) (sym (listed_more ns i lt))

-- a number's digits, the last one last
pub decimal_short : (n : ℕ) → n < 10 → 1 ≡ length (decimal n)
decimal_short n lt = sym (ap length (decimal_digit n lt))

pub decimal_long : (n : ℕ) → 10 ≤ n → n < 2 ^ 64 → length (decimal (n / 10)) + 1 ≡ length (decimal n)
decimal_long n le lt = sym (ap length (decimal_step n le lt) ∙ length_push (decimal (n / 10)) (48 + n % 10))

-- as many digits as the power of ten that it reaches, and one more
decimal_reaches : (n : ℕ) → n < 2 ^ 64 → (k : ℕ) → 10 ^ k ≤ n → k < length (decimal n)
decimal_reaches = decimal_by_steps (λ n ds. (k : ℕ) → 10 ^ k ≤ n → k < length ds) short long
  where
    short : (n : ℕ) → n < 10 → (k : ℕ) → 10 ^ k ≤ n → k < 1
    short n lt zero le = omega arith
    short n lt (suc k) le = let p = one-le-pow k 10 (omega arith) in let e = pow-suc 10 k in absurd (omega arith)

    long : (n : ℕ) (ds : List ℕ) → 10 ≤ n → ((k : ℕ) → 10 ^ k ≤ n / 10 → k < length ds) → (k : ℕ) → 10 ^ k ≤ n → k < length (ds ++ (48 + n % 10) ∷ [])
    long n ds ten h zero le = let l = length_push ds (48 + n % 10) in omega arith
    long n ds ten h (suc k) le =
        let l = length_push ds (48 + n % 10) in
        let e = pow-suc 10 k in
        let i = h k (omega arith) in
        omega arith

pub digit_count : (n : ℕ) (o : Option ℕ) → n < 2 ^ 64 → IfNone o (n ≡ 0) → IfSome o (λ k. 10 ^ k ≤ n) → IfSome o (λ k. n < 10 * 10 ^ k) → unwrap_or o 0 + 1 ≡ length (decimal n)
digit_count n None lt z a b = let e = ap length (decimal_digit n (omega arith)) in omega arith
digit_count n (Some k) lt z a b =
    let e = pow-suc 10 k in
    let le = length-decimal-le (suc k) n (omega arith) (omega arith) lt in
    let ge = decimal_reaches n lt k a in
    omega arith

pub lay_short : (at n : ℕ) (b : List ℕ) → n < 10 → at + length (decimal n) ≤ length b → set b at (48 + n) ≡ laid (decimal n) at b
lay_short at n b lt le =
    let e = decimal_short n lt in
    laid_one at (48 + n) b (omega arith) ∙ ap (λ t. laid t at b) (sym (decimal_digit n lt))

pub lay_long : (at n place : ℕ) (b b' : List ℕ) → 10 ≤ n → n < 2 ^ 64 → at + length (decimal n) ≤ length b → place ≡ at + length (decimal (n / 10)) → b' ≡ laid (decimal (n / 10)) at b → set b' place (48 + n % 10) ≡ laid (decimal n) at b
lay_long at n place b b' ten lt le e h =
    let k = decimal_long n ten lt in
    let l : at + length (decimal (n / 10)) < length b = omega arith in
    ap (λ x. set x place (48 + n % 10)) h
    ∙ ap (λ p. set (laid (decimal (n / 10)) at b) p (48 + n % 10)) e
    ∙ laid_push (decimal (n / 10)) at b (48 + n % 10) l
    ∙ ap (λ t. laid t at b) (sym (decimal_step n ten lt))

-- the last digit goes to a place of a buffer that has the digits before it
abbrev pub Last : ℕ → List ℕ → List ℕ → ℕ → Type 0
Last n b b' place = (place < length b') × (place + 1 ≡ length (decimal n)) × (set b' place (48 + n % 10) ≡ laid (decimal n) 0 b)

pub last_short : (n place : ℕ) (b b' : List ℕ) → n < 10 → length (decimal n) ≤ length b → place ≡ 0 → b' ≡ b → Last n b b' place
last_short n place b b' lt le e h =
    let k = decimal_short n lt in
    let d : n % 10 ≡ n = omega arith in
    let l = ap length h in (
      omega arith,
      omega arith,
      ap (λ x. set x place (48 + n % 10)) h
          ∙ ap (λ p. set b p (48 + n % 10)) e
          ∙ ap (λ x. set b 0 (48 + x)) d
          ∙ lay_short 0 n b lt (omega arith),
    )

pub last_long : (n place : ℕ) (b b' : List ℕ) → 10 ≤ n → n < 2 ^ 64 → length (decimal n) ≤ length b → place ≡ length (decimal (n / 10)) → b' ≡ laid (decimal (n / 10)) 0 b → Last n b b' place
last_long n place b b' ten lt le e h =
    let k = decimal_long n ten lt in
    let l = ap length h ∙ length-append (decimal (n / 10)) (drop (0 + length (decimal (n / 10))) b) in
    let d = length-drop (0 + length (decimal (n / 10))) b in
    (omega arith, omega arith, lay_long 0 n place b b' ten lt (omega arith) (omega arith) h)

-- the whole line of a leg
pub lay_leg : (ns b b' ys : List ℕ) (end : ℕ) → 3 + length (listed ns) < length b → b' ≡ laid (codes "leg") 0 b → ys ≡ laid (listed ns) 0 (from 3 b') → end ≡ 3 + length (listed ns) → set (put_mid 3 (length b' - 3) b' ys) end 10 ≡ laid (codes "leg" ++ (listed ns ++ (10 ∷ []))) 0 b
lay_leg ns b b' ys end le h e k =
    let t = codes "leg" ++ listed ns in
    let l = ap length h in
    let d = length-drop 3 b in
    let w : laid (listed ns) 3 (laid (codes "leg") 0 b) ≡ laid t 0 b = laid_laid (codes "leg") 0 b (listed ns) (omega arith) in
    let k' : end ≡ 0 + length t = omega arith in
    ap (λ x. set x end 10) (laid_part (listed ns) 3 b' ys (omega arith) e ∙ ap (laid (listed ns) 3) h ∙ w)
    ∙ ap (λ p. set (laid t 0 b) p 10) k'
    ∙ laid_push t 0 b 10 (omega arith)

pub text_length : (ns : List ℕ) → length (codes "leg" ++ (listed ns ++ (10 ∷ []))) ≡ 3 + length (listed ns) + 1
text_length ns = let e = length_push (listed ns) 10 in omega arith

pub written_ok : (l : Leg) (room n : ℕ) → leg_in_range 1024 l ≡ true → 3 + length (listed (leg_numbers l)) + 1 ≤ room → n ≡ 3 + length (listed (leg_numbers l)) + 1 → Ok n ≡ written room l
written_ok l room n r le k =
    let e = text_length (leg_numbers l) in
    let m : n ≡ length (leg_text l) = omega arith in
    ap Ok m ∙ sym (cond-true _ _ _ r ∙ cond-true _ _ _ (le-leb (length (leg_text l)) room (omega arith)))
