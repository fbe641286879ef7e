use Rattle.std.proofs.Common.{◌∙◌}
use Rattle.report.proofs.Listing.{listed_more, listed_end}
use Rattle.report.proofs.lines.push_fields.Goals as goal

pub loop-n-preserved : goal.loop-n-preserved
loop-n-preserved c = listed_more _ _ _ _ c.loop-n-test.true c.in_ok-push_field.ensures ∙ c.loop-n.invariant

pub returns : goal.returns
returns c = listed_end _ _ _ c.loop-n-test.false ∙ c.loop-n.invariant
