use Rattle.std.proofs.Common.{◌≡◌, Ok, Err, sym, ap, ◌∙◌, rules}
use Rattle.sheet.specs.Calls.{rows_left}
use Rattle.sheet.specs.Check.{plans_from}
use Rattle.sheet.proofs.Counting.{More, count_end, count_refused, count_more, some_read, none_read}
use Rattle.sheet.proofs.reader.Reader.count_plans.Goals as goal

-- the facts of a turn that read a plan
turn : (c : goal.After-saturating_add-plans) → More c.args.network.now.sites c.loop-plans.plans c.loop-plans.self c.next.new.self
turn c =
    let p = some_read c.in_ok-next.field-0 (sym c.is_some.ensures ∙ c.if-is_some.true) in
    count_more _ _ c.loop-plans.self _ p.0 (ap Ok (sym p.1) ∙ c.in_ok-next.ensures.answer) c.in_ok-next.ensures.reader

pub returns-in_err-next : goal.returns-in_err-next
returns-in_err-next c =
    let p : c.from_residual.result ≡ Err c.in_err-next.field-0.0 = search rules in
    p ∙ count_refused _ _ c.loop-plans.self.place _ _ _ _ c.in_err-next.ensures.answer ∙ c.loop-plans.invariant

pub loop-plans-smaller : goal.loop-plans-smaller
loop-plans-smaller c = (turn c).fewer

pub loop-plans-preserved : goal.loop-plans-preserved
loop-plans-preserved c =
    ap (λ k. plans_from c.next.new.self.loaded c.args.network.now.sites c.next.new.self.line k (rows_left c.next.new.self)) c.saturating_add-plans.ensures
    ∙ (turn c).same ∙ c.loop-plans.invariant

pub returns : goal.returns
returns c =
    let n = none_read c.in_ok-next.field-0 (sym c.is_some.ensures ∙ c.if-is_some.false) in
    count_end _ _ c.loop-plans.self.place _ _ _ (ap Ok (sym n) ∙ c.in_ok-next.ensures.answer) ∙ c.loop-plans.invariant
