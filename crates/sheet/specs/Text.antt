-- How a sheet's bytes are cut into lines and fields, and the number that a field writes. Assumes nothing.
use Rattle.std.specs.Prelude.{ℕ, ◌+◌, ◌-◌, ◌*◌, Bool, true, false, ◌&&◌, ◌||◌, List, [], ◌∷◌, length, Some, None, Option, ◌==◌, nat_lt, slice_index, if◌then◌else◌}

-- The bytes before the first b, or all of them.
unfoldable pub upto : ℕ → List ℕ → List ℕ
upto b [] = []
upto b (c ∷ cs) = if c == b then [] else c ∷ upto b cs

-- A line, and whether it has its end byte.
pub record Row : Type 0 where
  pub bytes : List ℕ
  pub ended : Bool

abbrev pub row : List ℕ → Bool → Row
row bs e = record { bytes = bs; ended = e }

-- c in front of the first line.
abbrev pub longer : ℕ → List Row → List Row
longer c [] = row (c ∷ []) false ∷ []
longer c (r ∷ rs) = row (c ∷ r.bytes) r.ended ∷ rs

-- The lines of a sheet. Each ends with a byte 10; bytes after the last such byte are a line without its end byte.
unfoldable pub lines : List ℕ → List Row
lines [] = []
lines (c ∷ cs) = if c == 10 then row [] true ∷ lines cs else longer c (lines cs)

-- A line's fields: after each comma (byte 44), the bytes up to the next one. There is no quoting.
unfoldable pub fields : List ℕ → List (List ℕ)
fields [] = []
fields (c ∷ cs) = if c == 44 then upto 44 cs ∷ fields cs else fields cs

-- The number that digits write, after the number n; none where a byte is no digit (48 to 57).
abbrev pub read_on : ℕ → List ℕ → Option ℕ
read_on n [] = Some n
read_on n (c ∷ cs) = if (nat_lt c 48 || nat_lt 57 c) then None else read_on (10 * n + (c - 48)) cs

-- A number has 1 to 10 digits, with no leading 0 unless it is `0`.
abbrev pub misshapen : List ℕ → Bool
misshapen ds = length ds == 0 || (nat_lt 10 (length ds) || (nat_lt 1 (length ds) && slice_index ds 0 == 48))

-- The number that a field writes, if it is one.
unfoldable pub value : List ℕ → Option ℕ
value ds = if misshapen ds then None else read_on 0 ds

abbrev pub both : Option ℕ → Option (List ℕ) → Option (List ℕ)
both None o = None
both (Some v) None = None
both (Some v) (Some vs) = Some (v ∷ vs)

-- The numbers of all the fields, if each writes one.
unfoldable pub values : List (List ℕ) → Option (List ℕ)
values [] = Some []
values (f ∷ fs) = both (value f) (values fs)
