-- The text of a report in a buffer. Assumes nothing.
use Rattle.std.proofs.Common.{◌≡◌, ℕ, List, Option, sym, subst}
use Rattle.planner.specs.Tallies.{allowing}
use Rattle.report.specs.declared.lines.Refused.{Refused}
use Rattle.report.specs.Reports.{Reports}
use Rattle.embed.specs.declared.reporting.Allowance.{Allowance}
use Rattle.embed.specs.declared.reporting.Written.{Written}
use Rattle.embed.specs.Buffers.{laid}
use Rattle.embed.specs.Texts.{room_of, put_record, Answered, reported}

module _ (sheet : List ℕ) (a : Allowance) (before after : List ℕ) (r : Written) where
  pub is_reported : (text held : List ℕ) (end : Option Refused) → Reports (room_of a) sheet (allowing a.steps) text end → held ≡ text → r ≡ put_record held before → after ≡ laid held before → Answered sheet a before after r
  is_reported text held end told same is put =
      subst (λ (x : Written). Answered sheet a before after x) (sym is) (reported held end (subst (λ (xs : List ℕ). Reports (room_of a) sheet (allowing a.steps) xs end) (sym same) told) put)
