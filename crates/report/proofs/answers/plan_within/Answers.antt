use Rattle.report.proofs.Starting.{reports}
use Rattle.report.proofs.answers.plan_within.Goals as goal

pub returns : goal.returns
returns c =
    let told = c.in_ok-refused.ensures in
    reports _ _ _ _ _ _ _ c.in_ok-text.ensures.items told.0 told.1 told.2 c.in_ok-push_end.ensures
