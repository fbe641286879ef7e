use Rattle.std.proofs.Common.{◌≡◌, [], sym, ◌∙◌, rules, arith}
use Rattle.std.proofs.lemmas.List.{append-nil, take_at}
use Rattle.std.proofs.lemmas.Result.{IfOk-weaker}
use Rattle.report.proofs.Starting.{ends_at_load, goes_on}
use Rattle.report.proofs.answers.tell_sheet.Goals as goal

pub returns-in-Err : goal.returns-in-Err
returns-in-Err c =
    let load = c.in-Err.ensures in
    ([], sym (append-nil _), ends_at_load c.args.room _ _ _ _ c.new-reader.ensures (search rules) c.in-Err.why _ _ load.answer load.reader c.line-line.ensures)

pub returns : goal.returns
returns c =
    let load = c.load.ensures in
    let written : c.deref.result.now ≡ c.load.new.table = c.deref.ensures.value ∙ take_at c.load.new.table _ _ (omega (arith, c.load.auto.table, c.deref_mut.ensures.len)) in
    IfOk-weaker c.tell_plans.result _ _
    (λ end t. (t.0, t.1, goes_on c.args.room _ _ _ _ c.new-reader.ensures (search rules) _ c.in_default.not-Err load.answer c.default-network.result _ load.network c.deref.result.now (written ∙ load.legs) _ load.reader _ c.in_ok-desk.ensures.room _ (c.in_ok-desk.ensures.made c.args.tally) _ _ t.2))
    c.tell_plans.ensures
