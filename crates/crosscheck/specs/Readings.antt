-- What two readers of sheets answer, and what is noted where they differ. Assumes nothing.
use Rattle.std.specs.Prelude.{◌≡◌, ℕ, Bool, true, List, [], ◌∷◌, ◌++◌, Ok, Err, Result, if◌then◌else◌, unwrap_or}
use Rattle.network.specs.declared.refusals.Refusal.{Refusal}
use Rattle.network.specs.Refusals.{line_of, number_of}
use Rattle.sheet.specs.declared.check.Summary.{Summary}
use Rattle.crosscheck.specs.declared.sheets.Reading.{Reading}
use Rattle.crosscheck.specs.declared.sheets.Reading.TheVariants.{Sound, Refused}

-- What a sheet has, or the number of its first refusal and the line at fault.
abbrev pub reading_of : Result Summary Refusal → Reading
reading_of (Ok s) = Sound s.network.sites s.network.legs s.plans
reading_of (Err e) = Refused (number_of e) (unwrap_or (line_of e) 0)

-- A seed is noted, unless the two readers answer the same.
abbrev pub seed_noted : List ℕ → ℕ → Bool → List ℕ
seed_noted seeds seed same = if same then seeds else seeds ++ (seed ∷ [])

-- The seed is noted, unless one reading is the other.
pub record Told (own other : Reading) (seed : ℕ) (before after : List ℕ) : Type 0 where
  pub same : Bool
  pub notes : after ≡ seed_noted before seed same
  pub agrees : same ≡ true → own ≡ other
