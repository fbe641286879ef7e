-- The numbers of a line's fields. Assumes nothing.
use Rattle.std.specs.Prelude.{ℕ, List, length, Err, Option, Result, ◌==◌, if◌then◌else◌, ok_or}
use Rattle.sheet.specs.declared.text.Fault.{Fault}
use Rattle.sheet.specs.declared.text.Fault.TheVariants.{Count, Form}
use Rattle.sheet.specs.Text.{values}

abbrev pub well_formed : Option (List ℕ) → Result (List ℕ) Fault
well_formed vs = ok_or vs Form

-- The numbers of k fields. A wrong number of fields comes before a field that is no number.
abbrev pub numbers_of : ℕ → List (List ℕ) → Result (List ℕ) Fault
numbers_of k fs = if length fs == k then well_formed (values fs) else Err Count
