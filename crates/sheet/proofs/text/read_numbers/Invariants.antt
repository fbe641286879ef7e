use Rattle.std.proofs.Common.{◌≡◌, length, take, drop}
use Rattle.sheet.specs.Text.{fields, values}
use Rattle.sheet.proofs.Numbering.{behind}
use Rattle.sheet.proofs.text.read_numbers.Given as goal

abbrev pub invariant-loop-i : goal.invariant-loop-i
invariant-loop-i l =
    (length (fields l.rest) ≡ length l.fn.values)
    × (behind (take (length l.yielded) l.values) (values (drop (length l.yielded) (fields l.rest))) ≡ values (fields l.rest))
