use Rattle.std.proofs.Common.{Err, ap, ◌∙◌, arith, rules}
use Rattle.std.proofs.lemmas.Result.{err_from_is_err_and}
use Rattle.planner.proofs.Ending.{ends_at_reach, ends_at_open, ends_served, ends_fulfilled}
use Rattle.planner.proofs.serving.serve.Goals as goal

pub returns-in_err-reach-clause-serves : goal.returns-in_err-reach-clause-serves
returns-in_err-reach-clause-serves g c =
    let p = err_from_is_err_and c.from_residual.result c.from_residual.ensures.1 in
    let told = c.in_err-reach.ensures in
    ends_at_reach _ _ _ _ _ _ _ (p.1 ∙ ap Err p.2) (search (rules, told.answer)) told.tables.0 told.tables.1

pub returns-in_err-open-clause-serves : goal.returns-in_err-open-clause-serves
returns-in_err-open-clause-serves g c =
    let p = err_from_is_err_and c.from_residual-in_err-open.result c.from_residual-in_err-open.ensures.1 in
    let reached = c.in_ok-reach.ensures in
    ends_at_open _ _ _ _ _ reached.answer reached.tables c.reach.auto.costs c.reach.auto.delays c.from.result (search (rules, c.from.ensures)) _ _ _ (p.1 ∙ ap Err p.2) c.in_err-open.ensures.answered

pub returns-clause-serves : goal.returns-clause-serves
returns-clause-serves g c =
    let reached = c.in_ok-reach.ensures in
    let opened = c.in_ok-open.ensures in
    ends_served _ _ _ _ _ reached.answer reached.tables c.reach.auto.costs c.reach.auto.delays c.from.result (search (rules, c.from.ensures)) _ opened.answered _ c.open.auto.labels c.open.auto.least opened.same_room _ c.left-left.ensures _ _ _ _ c.in_ok-made.ensures.answered (search (rules, c.take.ensures)) (search (rules, c.verdict.ensures))

pub returns-clause-fulfils : goal.returns-clause-fulfils
returns-clause-fulfils g c =
    let reached = c.in_ok-reach.ensures in
    let opened = c.in_ok-open.ensures in
    let ran = c.in_ok-made.ensures in
    ends_fulfilled _ _ _ _ _ reached.answer reached.tables c.reach.auto.costs c.reach.auto.delays c.from.result (search (rules, c.from.ensures)) _ opened.answered _ c.open.auto.labels c.open.auto.least opened.same_room _ c.left-left.ensures _ _ _ _ ran.answered (search (rules, c.take.ensures)) (search (rules, c.verdict.ensures))
    (g.met.T.Tariff.lawful c.args.tariff.now) opened.estimates_fit (omega arith)
