-- What answering a whole sheet puts into a buffer. Assumes nothing.
use Rattle.std.specs.Prelude.{◌≡◌, ℕ, List, length, Option, nat_le, if◌then◌else◌}
use Rattle.planner.specs.Tallies.{allowing}
use Rattle.report.specs.declared.answers.Room.{Room}
use Rattle.report.specs.declared.lines.Refused.{Refused}
use Rattle.report.specs.Reports.{Reports}
use Rattle.embed.specs.declared.reporting.Allowance.{Allowance}
use Rattle.embed.specs.declared.reporting.Written.{Written}
use Rattle.embed.specs.Buffers.{laid}

-- The room that is allowed.
abbrev pub room_of : Allowance → Room
room_of a = record { sites = a.sites; legs = a.legs; labels = a.labels }

abbrev pub written : ℕ → ℕ → Written
written n code = record { length = n; code = code }

-- The length of a text, and whether the buffer is long enough for it, by code 0, or too short, by code 1.
abbrev pub put_record : List ℕ → List ℕ → Written
put_record text buffer = if nat_le (length text) (length buffer) then written (length text) 0 else written (length text) 1

-- What answering a sheet with this allowance answers, and the buffer after it: the text that reports on the plans is put into it, if
-- it is long enough; or memory is short, and it stays as it was.
pub data Answered (sheet : List ℕ) (a : Allowance) (before after : List ℕ) : Written → Type 0 where
  reported : (text : List ℕ) (end : Option Refused) → Reports (room_of a) sheet (allowing a.steps) text end → after ≡ laid text before → Answered sheet a before after (put_record text before)
  wants_memory : after ≡ before → Answered sheet a before after (written 0 2)
