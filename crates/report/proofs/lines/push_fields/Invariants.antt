use Rattle.std.proofs.Common.{◌≡◌, ◌++◌, drop, vec_items}
use Rattle.sheet.specs.Writing.{listed}
use Rattle.report.proofs.lines.push_fields.Given as goal

abbrev pub invariant-loop-n : goal.invariant-loop-n
invariant-loop-n l = vec_items l.text ++ listed (drop l.n-index l.numbers) ≡ vec_items l.initial.text ++ listed l.numbers
