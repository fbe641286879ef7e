use Rattle.std.proofs.Common.{[], ◌∷◌, vec_items, decimal}
use Rattle.std.proofs.lemmas.Result.{IfOk-weaker}
use Rattle.report.proofs.Listing.{two_pieces}
use Rattle.report.proofs.lines.push_field.Goals as goal

pub returns : goal.returns
returns c =
    IfOk-weaker c.push_number.result _ _ (λ _ e. two_pieces (vec_items c.args.text.now) _ _ (44 ∷ []) (decimal c.args.n) c.in_ok-push.ensures.items e) c.push_number.ensures
