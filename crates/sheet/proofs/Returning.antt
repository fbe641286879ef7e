-- What is written reads back. Assumes nothing.
use Rattle.std.proofs.Common.{◌≡◌, ℕ, zero, suc, ◌+◌, ◌-◌, ◌*◌, ◌/◌, ◌%◌, ◌^◌, ◌<◌, ◌≤◌, Bool, true, false, cond, ◌||◌, ltb, List, [], ◌∷◌, ◌++◌, map, length, take, drop, Some, None, Ok, Err, codes, decimal, sym, refl, ap, ◌∙◌, append_assoc, arith}
use Rattle.std.proofs.lemmas.Fmt.{decimal_by_steps, decimal_digit, decimal_nonempty, length-decimal-le, first_decimal}
use Rattle.std.proofs.lemmas.List.{append-nil, length_push, take_at}
use Rattle.std.proofs.lemmas.Bool.{and_parts, and_from, cond-false, or_from, le-ltb, lt-ltb}
use Rattle.std.proofs.lemmas.Bool.Decides.{nat_tests}
use Rattle.network.specs.declared.legs.Leg.{Leg}
use Rattle.sheet.specs.Text.{Row, row, longer, upto, lines, fields, read_on, misshapen, value, values, both}
use Rattle.sheet.specs.Words.{leg, kind_by_word, after}
use Rattle.sheet.specs.Numbers.{well_formed}
use Rattle.network.specs.Legs.{leg_in_range}
use Rattle.network.proofs.Ranges.{ranges}
use Rattle.sheet.specs.Entries.{leg_entry, leg_of, entry_by}
use Rattle.network.specs.declared.refusals.Refusal.TheVariants.{UnknownWord, TableFull}
use Rattle.sheet.specs.Sheets.{or_refuse, row_kind, past, one_more, leg_stated, with_room, has_room, and_then, by_leg, legs_from, loaded_from, load, sized}
use Rattle.sheet.specs.Writing.{laid, listed, leg_numbers, leg_text}
use Rattle.sheet.specs.Theorems.{all_in_range, leg_texts, sheet_of, WrittenLegsReadBack, WrittenLegReadsBack}
use Rattle.sheet.proofs.Cutting.{upto_more, fields_more}
use Rattle.sheet.proofs.Lining.{lines_here, lines_more}

-- every byte is a digit
abbrev digital : List ℕ → Type 0
digital [] = Unit {0}
digital (c ∷ cs) = (48 ≤ c) × (c ≤ 57) × digital cs

digital_push : (ds : List ℕ) (c : ℕ) → digital ds → 48 ≤ c → c ≤ 57 → digital (ds ++ c ∷ [])
digital_push [] c d low high = (low, high, tt)
digital_push (x ∷ xs) c d low high = (d.0, d.1, digital_push xs c d.2 low high)

digital_decimal : (n : ℕ) → n < 2 ^ 64 → digital (decimal n)
digital_decimal = decimal_by_steps (λ n ds. digital ds)
    (λ n h. (omega arith, omega arith, tt))
    (λ n ds h d. digital_push ds (48 + n % 10) d (omega arith) (omega arith))

-- the value of a number's digits
read_push : (m n c : ℕ) (ds : List ℕ) → read_on m ds ≡ Some n → 48 ≤ c → c ≤ 57 → read_on m (ds ++ c ∷ []) ≡ Some (10 * n + (c - 48))
read_push m n c [] e low high =
    let k : m ≡ n = cc in
    cond-false _ _ _ (or_from _ _ (le-ltb _ _ low) (le-ltb _ _ high)) ∙ ap (λ x. Some (10 * x + (c - 48))) k
read_push m n c (x ∷ xs) e low high = by_byte (ltb x 48 || ltb 57 x) (λ h. read_push (10 * m + (x - 48)) n c xs h low high) e
  where
    by_byte : (b : Bool) → (read_on (10 * m + (x - 48)) xs ≡ Some n → read_on (10 * m + (x - 48)) (xs ++ c ∷ []) ≡ Some (10 * n + (c - 48))) → cond b None (read_on (10 * m + (x - 48)) xs) ≡ Some n → cond b None (read_on (10 * m + (x - 48)) (xs ++ c ∷ [])) ≡ Some (10 * n + (c - 48))
    by_byte true more e = cc
    by_byte false more e = more e

read_decimal : (n : ℕ) → n < 2 ^ 64 → read_on 0 (decimal n) ≡ Some n
read_decimal = decimal_by_steps (λ n ds. read_on 0 ds ≡ Some n)
    (λ n h. let e : 10 * 0 + (48 + n - 48) ≡ n = omega arith in cond-false _ _ _ (or_from _ _ (le-ltb (48 + n) 48 (omega arith)) (le-ltb 57 (48 + n) (omega arith))) ∙ ap Some e)
    (λ n ds h e.
    let k : 10 * (n / 10) + (48 + n % 10 - 48) ≡ n = omega arith in
    read_push 0 (n / 10) (48 + n % 10) ds e (omega arith) (omega arith) ∙ ap Some k)

shaped_decimal : (n : ℕ) → n < 10 ^ 10 → misshapen (decimal n) ≡ false
shaped_decimal n lt =
    let a = decimal_nonempty n (omega arith) in
    let b = length-decimal-le 10 n (omega arith) lt (omega arith) in
    shape n a b lt
  where
    shape : (n : ℕ) → 0 < length (decimal n) → length (decimal n) ≤ 10 → n < 10 ^ 10 → misshapen (decimal n) ≡ false
    shape zero a b lt = ap misshapen (decimal_digit 0 (omega arith))
    shape (suc k) a b lt = let f = first_decimal (suc k) (omega arith) (omega arith) in grind (arith, nat_tests)

value_decimal : (n : ℕ) → n < 10 ^ 10 → value (decimal n) ≡ Some n
unfolding value
value_decimal n lt = cond-false _ _ _ (shaped_decimal n lt) ∙ read_decimal n (omega arith)

-- text without a comma or an end byte
abbrev free : ℕ → List ℕ → Type 0
free b [] = Unit {0}
free b (c ∷ cs) = (c ≡ b → ⊥) × free b cs

free_append : (b : ℕ) (xs ys : List ℕ) → free b xs → free b ys → free b (xs ++ ys)
free_append b [] ys f g = g
free_append b (x ∷ xs) ys f g = (f.0, free_append b xs ys f.1 g)

free_digits : (b : ℕ) (ds : List ℕ) → b < 48 → digital ds → free b ds
free_digits b [] lt d = tt
free_digits b (c ∷ cs) lt d = (λ e. let h = d.0 in omega arith, free_digits b cs lt d.2)

-- each number is small enough to be one of 10 digits
abbrev small : List ℕ → Type 0
small [] = Unit {0}
small (n ∷ ns) = (n < 10 ^ 10) × small ns

free_listed : (ns : List ℕ) → small ns → free 10 (listed ns)
unfolding listed
free_listed [] s = tt
free_listed (n ∷ ns) s =
    let h = s.0 in
    ((λ e. omega arith), free_append 10 (decimal n) (listed ns) (free_digits 10 (decimal n) (omega arith) (digital_decimal n (omega arith))) (free_listed ns s.1))

-- an ended line in front
lines_line : (t rest : List ℕ) → free 10 t → lines (t ++ (10 ∷ rest)) ≡ row t true ∷ lines rest
lines_line [] rest f = lines_here 10 rest refl
lines_line (c ∷ cs) rest f = lines_more c (cs ++ (10 ∷ rest)) f.0 ∙ ap (longer c) (lines_line cs rest f.1)

-- a word or a field in front
upto_front : (t rest : List ℕ) → free 44 t → upto 44 rest ≡ [] → upto 44 (t ++ rest) ≡ t
upto_front [] rest f e = e
upto_front (c ∷ cs) rest f e = upto_more 44 c (cs ++ rest) f.0 ∙ ap (λ x. c ∷ x) (upto_front cs rest f.1 e)

fields_front : (t rest : List ℕ) → free 44 t → fields (t ++ rest) ≡ fields rest
fields_front [] rest f = refl
fields_front (c ∷ cs) rest f = fields_more c (cs ++ rest) f.0 ∙ fields_front cs rest f.1

upto_listed : (ns : List ℕ) → upto 44 (listed ns) ≡ []
unfolding upto listed
upto_listed [] = refl
upto_listed (n ∷ ns) = refl

fields_listed : (ns : List ℕ) → small ns → fields (listed ns) ≡ map decimal ns
unfolding fields listed
fields_listed [] s = refl
fields_listed (n ∷ ns) s =
    let h = s.0 in
    let f : free 44 (decimal n) = free_digits 44 (decimal n) (omega arith) (digital_decimal n (omega arith)) in
    ap (λ x. x ∷ fields (decimal n ++ listed ns)) (upto_front (decimal n) (listed ns) f (upto_listed ns))
    ∙ ap (λ x. decimal n ∷ x) (fields_front (decimal n) (listed ns) f ∙ fields_listed ns s.1)

values_decimal : (ns : List ℕ) → small ns → values (map decimal ns) ≡ Some ns
unfolding values
values_decimal [] s = refl
values_decimal (n ∷ ns) s = ap (λ x. both x (values (map decimal ns))) (value_decimal n s.0) ∙ ap (both (Some n)) (values_decimal ns s.1)

-- a leg's line says that leg
small_leg : (l : Leg) → leg_in_range 1024 l ≡ true → small (leg_numbers l)
small_leg l r =
    let h = ranges 1024 l r in (
      omega (arith, h.tail),
      (
        omega (arith, h.head),
        (
          omega (arith, h.fee),
          (
            omega (arith, h.grade),
            (
              omega (arith, h.stated),
              (omega (arith, h.medium), tt),
            ),
          ),
        ),
      ),
    )

entry_back : (l : Leg) (line : ℕ) → leg_in_range 1024 l ≡ true → leg_entry 1024 line (fields (listed (leg_numbers l))) ≡ Ok l
entry_back l line r =
    let ns = leg_numbers l in
    let s = small_leg l r in
    ap (λ fs. leg_entry 1024 line fs) (fields_listed ns s)
    ∙ ap (λ o. entry_by line (leg_of 1024) (well_formed o)) (values_decimal ns s)
    ∙ ap (λ b. entry_by line (λ vs. cond b (Some l) None) (Ok ns)) r

kind_leg : (l : Leg) → kind_by_word (codes "leg" ++ listed (leg_numbers l)) ≡ Some (leg (listed (leg_numbers l)))
unfolding upto listed after
kind_leg l = refl

abbrev leg_row : Leg → Row
leg_row l = row (codes "leg" ++ listed (leg_numbers l)) true

row_back : (l : Leg) (line : ℕ) (b : Bool) → leg_in_range 1024 l ≡ true → b ≡ true → and_then (row_kind line (leg_row l)) (leg_stated 1024 line b) ≡ Ok (Some l)
row_back l line b r f =
    ap (λ o. and_then (or_refuse (UnknownWord line) o) (leg_stated 1024 line b)) (kind_leg l)
    ∙ ap (with_room line b) (entry_back l line r)
    ∙ ap (λ x. cond x (Ok (Some l)) (Err (TableFull line))) f

lines_back : (l : Leg) (rest : List ℕ) → leg_in_range 1024 l ≡ true → lines (leg_text l ++ rest) ≡ leg_row l ∷ lines rest
lines_back l rest r =
    let ns = leg_numbers l in
    let f = free_listed ns (small_leg l r) in
    ap (λ x. lines (codes "leg" ++ x)) (append_assoc (listed ns) (10 ∷ []) rest)
    ∙ lines_line (codes "leg" ++ listed ns) rest ((λ e. omega arith), ((λ e. omega arith), ((λ e. omega arith), f)))

leg_back : (room at line : ℕ) (acc : List Leg) (l : Leg) (rest : List ℕ) → leg_in_range 1024 l ≡ true → length acc < room → length acc < 4096 → legs_from 1024 room at line acc (lines (leg_text l ++ rest)) ≡ legs_from 1024 room (past at (leg_row l)) (one_more line) (acc ++ l ∷ []) (lines rest)
unfolding legs_from
leg_back room at line acc l rest r a b =
    ap (legs_from 1024 room at line acc) (lines_back l rest r)
    ∙ ap (λ o. by_leg o (λ x. legs_from 1024 room (past at (leg_row l)) (one_more line) (acc ++ x ∷ []) (lines rest)) (load (Ok (sized 1024 acc)) acc at line) (λ y. load (Err y) acc at line))
    (row_back l line (has_room room (length acc)) r (and_from _ _ (lt-ltb _ _ a) (lt-ltb _ _ b)))

-- legs that are written load one after another
legs_back : (ls : List Leg) (room at line : ℕ) (acc : List Leg) → all_in_range ls ≡ true → length acc + length ls ≤ room → length acc + length ls ≤ 4096 → ((legs_from 1024 room at line acc (lines (leg_texts ls))).outcome ≡ Ok (sized 1024 (acc ++ ls))) × ((legs_from 1024 room at line acc (lines (leg_texts ls))).legs ≡ acc ++ ls)
unfolding lines legs_from
legs_back [] room at line acc r a b = (ap (λ x. Ok (sized 1024 x)) (sym (append-nil acc)), sym (append-nil acc))
legs_back (l ∷ ls) room at line acc r a b =
    let p = and_parts _ _ r in
    let e : legs_from 1024 room at line acc (lines (leg_texts (l ∷ ls))) ≡ legs_from 1024 room (past at (leg_row l)) (one_more line) (acc ++ l ∷ []) (lines (leg_texts ls)) = leg_back room at line acc l (leg_texts ls) p.0 (omega arith) (omega arith) in
    let n = length_push acc l in
    let ih = legs_back ls room (past at (leg_row l)) (one_more line) (acc ++ l ∷ []) p.1 (omega arith) (omega arith) in
    let s = append_assoc acc (l ∷ []) ls in
    (ap (λ o. o.outcome) e ∙ ih.0 ∙ ap (λ x. Ok (sized 1024 x)) s, ap (λ o. o.legs) e ∙ ih.1 ∙ s)

net_back : (room : ℕ) (text : List ℕ) → loaded_from room (lines (sheet_of text)) ≡ legs_from 1024 room 13 2 [] (lines text)
unfolding lines upto after fields value values loaded_from
net_back room text = refl

pub reads_back : WrittenLegsReadBack
reads_back ls room r a b =
    let e = net_back room (leg_texts ls) in
    let k = legs_back ls room 13 2 [] r (omega arith) (omega arith) in
    (ap (λ o. o.outcome) e ∙ k.0, ap (λ o. o.legs) e ∙ k.1)

-- the same of the one line that write leaves in a buffer
front_back : (t b : List ℕ) → take (length t) (laid t 0 b) ≡ t
front_back t b = take_at t (drop (0 + length t) b) (length t) refl

pub write_back : (l : Leg) (n : ℕ) (b : List ℕ) → leg_in_range 1024 l ≡ true → n ≡ length (leg_text l) → WrittenLegReadsBack (take n (laid (leg_text l) 0 b)) l
write_back l n b r e room h =
    let t : take n (laid (leg_text l) 0 b) ≡ leg_texts (l ∷ []) = ap (λ k. take k (laid (leg_text l) 0 b)) e ∙ front_back (leg_text l) b ∙ sym (append-nil (leg_text l)) in
    let k = reads_back (l ∷ []) room (and_from _ _ r refl) (omega arith) (omega arith) in
    (ap (λ x. (loaded_from room (lines (sheet_of x))).outcome) t ∙ k.0, ap (λ x. (loaded_from room (lines (sheet_of x))).legs) t ∙ k.1)
