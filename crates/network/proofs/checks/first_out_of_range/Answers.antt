use Rattle.std.proofs.Common.{not, rules, tests}
use Rattle.std.proofs.lemmas.Iterator.{YieldsList-from_slice}
use Rattle.std.proofs.lemmas.Iterator.Search.{position_from_yields_List}
use Rattle.network.specs.declared.legs.Leg.{Leg}
use Rattle.network.specs.Legs.{leg_in_range}
use Rattle.network.proofs.Failing.{first_by_position}
use Rattle.network.proofs.checks.first_out_of_range.Goals as goal

pub returns : goal.returns
returns c =
    let legs = c.args.legs.now in
    let first = first_by_position (leg_in_range c.args.sites) legs _ (position_from_yields_List (λ (leg : Leg). not (leg_in_range c.args.sites leg)) _ _ c.position.result c.position.ensures.ran (YieldsList-from_slice legs cc) (λ x b q k. search (rules, tests))) in
    search (rules, first)
