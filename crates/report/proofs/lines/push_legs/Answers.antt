use Rattle.std.proofs.Common.{◌∷◌, ◌++◌, vec_items, decimal, ap, ◌∙◌}
use Rattle.report.proofs.Listing.{listed_more, listed_end}
use Rattle.report.proofs.lines.push_legs.Goals as goal

pub loop-leg-preserved : goal.loop-leg-preserved
loop-leg-preserved c = listed_more _ _ _ _ c.loop-leg-test.true (c.in_ok-push_field.ensures ∙ ap (λ n. vec_items c.loop-leg.text ++ (44 ∷ decimal n)) c.from.ensures) ∙ c.loop-leg.invariant

pub returns : goal.returns
returns c = listed_end _ _ _ c.loop-leg-test.false ∙ c.loop-leg.invariant
