-- The plain records that cross the border to another language. Assumes nothing.
use Rattle.std.specs.Prelude.{ℕ, Ok, Err, Result, unwrap_or}
use Rattle.network.specs.declared.refusals.Refusal.{Refusal}
use Rattle.network.specs.Refusals.{number_of, line_of}
use Rattle.sheet.specs.declared.check.Summary.{Summary}
use Rattle.embed.specs.declared.checking.SheetCheck.{SheetCheck}

-- The line that a refusal carries; 0 where it carries none.
abbrev pub line_at_fault : Refusal → ℕ
line_at_fault why = unwrap_or (line_of why) 0

-- What a check of a sheet comes to, as a record: what a sound sheet has, or the number and the line of its first refusal.
abbrev pub check_record : Result Summary Refusal → SheetCheck
check_record (Ok s) = record { plans = s.plans; line = 0; sites = s.network.sites; legs = s.network.legs; number = 0 }
check_record (Err why) = record { plans = 0; line = line_at_fault why; sites = 0; legs = 0; number = number_of why }
