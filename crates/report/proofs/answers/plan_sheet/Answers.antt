use Rattle.std.proofs.Common.{List, ℕ, arith, subst}
use Rattle.std.proofs.lemmas.Result.{IfOk-weaker}
use Rattle.planner.specs.Tallies.{whole}
use Rattle.report.specs.Reports.{Reports, batch_room}
use Rattle.report.proofs.Starting.{first_bytes}
use Rattle.report.proofs.answers.plan_sheet.Goals as goal

pub returns : goal.returns
returns c = IfOk-weaker c.plan_within.result _ _
    (λ x told. subst (λ (bytes : List ℕ). Reports batch_room bytes whole x.text.items x.refused) (first_bytes c.args.input.now _ 16384 c.min.result c.min.ensures (omega arith)) (rw c.new.ensures at told))
    c.plan_within.ensures
