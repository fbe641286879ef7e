use Rattle.std.proofs.Common.{◌≡◌, true, [], ◌++◌, is_ok, is_err, string_bytes, sym, refl, ap, ◌∙◌}
use Rattle.std.proofs.lemmas.List.{append-nil}
use Rattle.std.proofs.lemmas.Bool.{cond-true, both_ways}
use Rattle.sheetcheck.proofs.report.Goals as goal
use Rattle.sheetcheck.proofs.report.Goals.{then-is_ok+in_ok-plan_lines+in_ok-push_str, else-is_ok}

pub returns-clause-text : goal.returns-clause-text
returns-clause-text c =
    elim c.if-is_ok.branch [
      | then-is_ok+in_ok-plan_lines+in_ok-push_str w ↦
          let pushed : is_ok w.push_str.result ≡ true = ap is_ok w.in_ok-push_str.was in
          record {
            plans = w.as_str.result.now;
            lines = ap string_bytes w.text-is ∙ w.push_str.ensures.bytes ∙ cond-true _ _ _ pushed ∙ ap (λ t. t ++ w.as_str.result.now) c.in_ok-text.ensures.ok;
            no_more = λ e. absurd (both_ways (is_err c.check_sheet-answer.result) w.if-is_ok.ensures.negation e);
          }
      | else-is_ok w ↦ record { plans = []; lines = ap string_bytes w.text-is ∙ c.in_ok-text.ensures.ok ∙ sym (append-nil _); no_more = λ _. refl }
    ]
