use Rattle.std.proofs.Common.{[], not, rules, tests}
use Rattle.std.proofs.lemmas.Iterator.{YieldsList-from_slice}
use Rattle.std.proofs.lemmas.Iterator.Search.{position_from_yields_List}
use Rattle.network.specs.declared.legs.Leg.{Leg}
use Rattle.network.specs.Estimates.{leg_keeps_rules}
use Rattle.network.specs.Walks.{graph}
use Rattle.network.proofs.Failing.{first_by_position}
use Rattle.search.proofs.opening.first_unlawful.Goals as goal

pub returns-clause-value : goal.returns-clause-value
returns-clause-value g c =
    let legs = c.args.legs.now in
    let lawful = leg_keeps_rules (graph (g.T.Tariff.terms c.args.tariff.now) []) (g.E.Estimate.at c.args.estimate.now) in
    let first = first_by_position lawful legs _ (position_from_yields_List (λ (leg : Leg). not (lawful leg)) _ _ c.position.result c.position.ensures.ran (YieldsList-from_slice legs cc) (λ x b q k. search (rules, tests))) in
    search (rules, first)
