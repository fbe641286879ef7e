use Rattle.std.proofs.Common.{◌-◌, length}
use Rattle.sheetcheck.proofs.plan_lines.Given as goal

-- how much of the sheet is left
abbrev pub decreases-plans : goal.decreases-plans
decreases-plans l = length l.reader.sheet.now - l.reader.place
