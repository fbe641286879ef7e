use Rattle.std.proofs.Common.{arith}
use Rattle.sheet.proofs.Laying.{digit_count}
use Rattle.sheet.proofs.writing.digits.Goals as goal

pub returns-clause-value : goal.returns-clause-value
returns-clause-value c =
    let h = c.checked_ilog10.ensures in
    let e = digit_count c.args.n _ (omega arith) h.none h.power_le h.next_power_gt in
    omega arith
