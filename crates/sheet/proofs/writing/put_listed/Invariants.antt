use Rattle.std.proofs.Common.{◌≡◌, ◌+◌, length, drop}
use Rattle.sheet.specs.Writing.{laid, listed}
use Rattle.sheet.proofs.writing.put_listed.Given as goal

abbrev pub invariant-loop-n : goal.invariant-loop-n
invariant-loop-n l =
    (l.place + length (listed (drop l.n-index l.numbers)) ≡ length (listed l.numbers))
    × (laid (listed (drop l.n-index l.numbers)) l.place l.buffer ≡ laid (listed l.numbers) 0 l.initial.buffer)
