-- Which phase a verdict tells of. Assumes nothing.
use Rattle.std.proofs.Common.{◌≡◌, ℕ, refl, subst}
use Rattle.worksheet.specs.declared.records.Phase.{Phase}
use Rattle.worksheet.specs.declared.records.Phase.TheVariants as phase
use Rattle.search.specs.declared.record.Standing.{Standing}
use Rattle.search.specs.declared.record.Standing.TheVariants.{Fresh, Open, Found, Exhausted, Stopped}
use Rattle.search.specs.Record.{standing_of}

-- The phase is the one of that standing; a found label is not told.
abbrev pub IsIn : Standing → Phase → Type 0
IsIn Fresh q = q ≡ phase.Fresh
IsIn Open q = q ≡ phase.Open
IsIn (Found m) q = (i : ℕ) × (q ≡ phase.Found i m)
IsIn Exhausted q = q ≡ phase.Exhausted
IsIn (Stopped why) q = q ≡ phase.Stopped why

tells_phase : (q : Phase) → IsIn (standing_of q) q
tells_phase (phase.Found i m) = (i, refl)
tells_phase q = refl

pub phase_told : (x : Standing) (q : Phase) → standing_of q ≡ x → IsIn x q
phase_told x q e = subst (λ (y : Standing). IsIn y q) e (tells_phase q)
