use Rattle.std.proofs.Common.{◌≡◌, true, Ok, Err, sym, refl, ap, ap₂, ◌∙◌, rules}
use Rattle.sheet.specs.Calls.{rows_left, line_shown}
use Rattle.sheet.specs.Sheets.{plan_stated}
use Rattle.sheet.specs.Words.{line_kind}
use Rattle.sheet.proofs.Loading.{next_done, next_stated}
use Rattle.sheet.proofs.reader.Reader.next.Goals as goal

pub returns-in_err-plan : goal.returns-in_err-plan
returns-in_err-plan c =
    let q : c.from_residual-in_err-plan.result ≡ Err c.in_err-plan.field-0.0 = search rules in
    let same : c.in-Some.ahead.number ≡ c.args.self.now.line = search rules in
    let loaded : true ≡ c.args.self.now.loaded = search rules in
    let d = next_done c.args.self.now c.args.self.now (Err c.in_err-plan.field-0.0) _ _ (next_stated c.args.self.now.loaded _ _ _ (rows_left c.args.self.now) _ _ _ (ap (λ o. line_shown (Ok o)) (sym c.in-Some.is) ∙ c.in_ok-ahead.ensures.shown) (c.in_err-plan.ensures ∙ ap₂ (λ l i. plan_stated l c.args.network.now.sites i (line_kind c.in-Some.ahead.line)) loaded same)) refl refl in
    record { answer = q ∙ d.0; reader = d.1 }
