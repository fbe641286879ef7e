use Rattle.std.proofs.Common.{◌∙◌, take, ap, rules, tests, arith}
use native.Mathlib.Nat.{sub-zero}
use Rattle.std.proofs.lemmas.Bool.Decides.{nat_tests}
use Rattle.std.proofs.lemmas.Iterator.{YieldsList-from_slice}
use Rattle.std.proofs.lemmas.Iterator.Search.{all_from_yields_List}
use Rattle.network.specs.Checks.{legs_of}
use Rattle.worksheet.specs.Steps.{leads_inside}
use Rattle.search.proofs.inside.all_inside.Goals as goal

pub returns : goal.returns
returns c =
    let table = c.args.table.now in
    let front = c.in-Some.ensures.lookup.0 in
    let legs = front.2 ∙ ap (λ k. take k table) (sub-zero c.from.result ∙ c.from.ensures) in
    let all = all_from_yields_List (leads_inside c.args.records) _ _ c.all.result c.all.ensures.ran (YieldsList-from_slice (legs_of c.args.network.now table) (c.iter.ensures.rest ∙ legs)) (λ x b q k. search (rules, tests)) in
    grind (arith, nat_tests, front.1)
