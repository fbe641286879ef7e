use Rattle.std.proofs.Common.{◌≡◌, ℕ, length, replicate, vec_items, refl, ◌∙◌, arith}
use Rattle.std.proofs.lemmas.List.{length-replicate}
use Rattle.planner.proofs.Routes.{route_is}
use Rattle.embed.proofs.Telling.{by_refusal, without_route, with_route}
use Rattle.embed.proofs.serving.answer_at.Goals as goal

pub returns-in-Err-clause-told : goal.returns-in-Err-clause-told
returns-in-Err-clause-told c =
    let s = c.in-Err.ensures.served in
    by_refusal _ _ _ _ _ c.in-Err.why _ s.1 _ c.into.ensures refl

pub returns-in_default : goal.returns-in_default
returns-in_default c =
    let s = c.in-Ok.ensures.served in
    record { told = without_route _ _ _ _ _ c.in-Ok.verdict _ s.1 s.2 _ c.from-answer.ensures c.in_default.not-Found refl; kept = tt }

pub returns-clause-told : goal.returns-clause-told
returns-clause-told c =
    let s = c.in-Ok.ensures.served in
    let labels : length (vec_items c.args.desk.now.labels) ≡ c.args.desk.now.queue.most = c.args.desk.now.entries in
    let labels' : length (vec_items c.serve_at.new.desk.labels) ≡ c.serve_at.new.desk.queue.most = c.serve_at.new.desk.entries in
    let room : c.serve_at.new.desk.queue.most ≡ c.args.desk.now.queue.most = c.in-Ok.ensures.same_room in
    let buffer : length {A = ℕ} (replicate (length (vec_items c.serve_at.new.desk.labels)) 0) ≡ length (vec_items c.serve_at.new.desk.labels) = length-replicate _ _ in
    let route = c.deref.ensures.value ∙ c.in_ok-route.ensures ∙ route_is _ _ _ _ _ s.2 c.in-Found.field-0 c.in-Found.is (replicate (length (vec_items c.serve_at.new.desk.labels)) 0) (omega (arith, labels, labels', room, buffer)) in
    with_route _ _ _ _ _ c.in-Ok.verdict _ s.1 s.2 _ c.from-answer.ensures c.in-Found.field-0 c.in-Found.is _ route _ (omega (arith, c.len.ensures, c.deref.ensures.len)) c.lay.ensures.after
