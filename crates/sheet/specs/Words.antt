-- The kind of a line, by its word. Assumes nothing.
use Rattle.std.specs.Prelude.{ℕ, Bool, ◌||◌, List, length, drop, Some, None, codes, Option, ◌==◌, slice_index, if◌then◌else◌, bytes_eq, option_map}
use Rattle.sheet.specs.declared.words.Line.{Line}
use Rattle.sheet.specs.declared.words.Line.TheVariants.{Network, Leg, Plan}
use Rattle.sheet.specs.Text.{upto}

-- A line by its kind, with the text after its word: empty, or from the first comma on.
pub data Kind : Type 0 where
  network : List ℕ → Kind
  leg : List ℕ → Kind
  plan : List ℕ → Kind

abbrev pub line_kind : Line → Kind
line_kind (Network rest) = network rest.now
line_kind (Leg rest) = leg rest.now
line_kind (Plan rest) = plan rest.now

abbrev pub kind_shown : Option Line → Option Kind
kind_shown = option_map line_kind

-- Two texts are the same.
abbrev pub same : List ℕ → List ℕ → Bool
same = bytes_eq

-- A text that is empty or begins with a comma.
abbrev pub is_rest : List ℕ → Bool
is_rest bs = length bs == 0 || slice_index bs 0 == 44

-- A line's word is what stands before its first comma. The text after the word w, if that is the line's word.
unfoldable pub after : List ℕ → List ℕ → Option (List ℕ)
after w line = if same (upto 44 line) w then Some (drop (length w) line) else None

abbrev pub or_else : (List ℕ → Kind) → Option (List ℕ) → Option Kind → Option Kind
or_else k None o = o
or_else k (Some rest) o = Some (k rest)

-- The kind of a line, if its word is one of the three.
abbrev pub kind_by_word : List ℕ → Option Kind
kind_by_word line =
    or_else network (after (codes "network") line)
    (or_else leg (after (codes "leg") line)
    (or_else plan (after (codes "plan") line) None))
