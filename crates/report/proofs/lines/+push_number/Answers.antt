use Rattle.std.proofs.Common.{arith}
use Rattle.report.proofs.Listing.{number_short, number_long}
use Rattle.report.proofs.lines.+push_number.Goals as goal

pub returns-then-n-lt10 : goal.returns-then-n-lt10
returns-then-n-lt10 t c = number_short _ _ _ c.if-n-lt10.true c.in_ok-push.ensures.items

pub returns : goal.returns
returns t c = number_long _ _ _ _ c.if-n-lt10.false (omega arith) c.in_ok-push_number.ensures c.in_ok-push-2.ensures.items
