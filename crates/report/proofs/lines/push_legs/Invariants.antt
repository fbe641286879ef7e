use Rattle.std.proofs.Common.{◌≡◌, ◌++◌, drop, vec_items}
use Rattle.sheet.specs.Writing.{listed}
use Rattle.report.proofs.lines.push_legs.Given as goal

abbrev pub invariant-loop-leg : goal.invariant-loop-leg
invariant-loop-leg l = vec_items l.text ++ listed (drop l.leg-index l.legs) ≡ vec_items l.initial.text ++ listed l.legs
