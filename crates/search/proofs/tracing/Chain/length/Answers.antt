use Rattle.std.proofs.Common.{◌∙◌, arith}
use Rattle.std.proofs.lemmas.Bool.Decides.{nat_tests}
use Rattle.search.proofs.Traces.{count_on, count_fails, count_ends, count_none}
use Rattle.search.proofs.tracing.Chain.length.Goals as goal

pub returns-in_err-first : goal.returns-in_err-first
returns-in_err-first c = c.from_residual.ensures ∙ count_none _ _ _ _ (grind (arith, nat_tests))

pub returns-in_err-at : goal.returns-in_err-at
returns-in_err-at c = c.from_residual-in_err-at.ensures ∙ count_fails _ _ _ _ _ _ c.loop-at.invariant c.loop-at-test.true c.in_err-at.ensures

pub loop-at-preserved : goal.loop-at-preserved
loop-at-preserved c = grind (arith, count_on)

pub returns : goal.returns
returns c = let ends = count_ends _ _ _ _ _ _ c.loop-at.invariant c.loop-at-test.false in grind (arith, nat_tests)
