-- A reader as it is made. Assumes nothing.
use Rattle.std.specs.Prelude.{◌≡◌, ℕ, false, List}
use Rattle.sheet.specs.declared.reader.Reader.{Reader}

-- A reader at the first line of a sheet, of which nothing is loaded.
abbrev pub fresh : List ℕ → Reader → Type 0
fresh sheet r = (r.sheet.now ≡ sheet) × (r.place ≡ 0) × (r.line ≡ 1) × (r.loaded ≡ false)
