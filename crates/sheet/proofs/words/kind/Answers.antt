use Rattle.std.proofs.Common.{true, false, Some, refl, ap, ◌∙◌, arith}
use Rattle.std.proofs.lemmas.List.{take_rest}
use Rattle.std.proofs.lemmas.Bool.Decides.{nat_tests}
use Rattle.sheet.specs.Words.{network, leg, plan}
use Rattle.sheet.proofs.Wording.{kind_by}
use Rattle.sheet.proofs.words.kind.Goals as goal

pub returns-in-110 : goal.returns-in-110
returns-in-110 c =
    let rest = take_rest c.args.line.now 7 in
    ap (λ r. Some (network r)) rest ∙ kind_by c.args.line.now true _ _ (grind (arith, nat_tests)) refl refl

pub returns-in-112 : goal.returns-in-112
returns-in-112 c =
    let rest = take_rest c.args.line.now 4 in
    ap (λ r. Some (plan r)) rest ∙ kind_by c.args.line.now false false true (grind (arith, nat_tests)) (grind (arith, nat_tests)) (grind (arith, nat_tests))

pub returns-in-108 : goal.returns-in-108
returns-in-108 c =
    let rest = take_rest c.args.line.now 3 in
    ap (λ r. Some (leg r)) rest ∙ kind_by c.args.line.now false true _ (grind (arith, nat_tests)) (grind (arith, nat_tests)) refl

pub returns-in_default : goal.returns-in_default
returns-in_default c =
    let rest7 = take_rest c.args.line.now 7 in
    let rest4 = take_rest c.args.line.now 4 in
    let rest3 = take_rest c.args.line.now 3 in
    kind_by c.args.line.now false false false (grind (arith, nat_tests)) (grind (arith, nat_tests)) (grind (arith, nat_tests))
