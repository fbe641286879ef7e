use Rattle.std.proofs.Common.{rules}
use Rattle.promise.specs.Conduct.{opens, advances, traces}
use Rattle.promise.proofs.Conducting.{of_request, tells_verdict}
use Rattle.promise.proofs.conduct.answer.Goals as goal

pub returns-in-Open-clause-does : goal.returns-in-Open-clause-does
returns-in-Open-clause-does g c = of_request c.in-Open.is (opens _ _ _ c.open.ensures.answered c.open.ensures.estimates_fit)

pub returns-in-Advance-clause-does : goal.returns-in-Advance-clause-does
returns-in-Advance-clause-does g c = of_request c.in-Advance.is (advances _ _ _ (search (rules, c.advance.ensures.answered)))

pub returns-in-Verdict-clause-does : goal.returns-in-Verdict-clause-does
returns-in-Verdict-clause-does g c = of_request c.in-Verdict.is (tells_verdict _ c.verdict.ensures)

pub returns-in-Trace-clause-does : goal.returns-in-Trace-clause-does
returns-in-Trace-clause-does g c = of_request c.in-Trace.is (traces _ _ c.trace_into.ensures)
