use Rattle.std.proofs.Common.{◌≡◌, [], ◌∷◌, ◌∙◌, append_assoc, arith, rules}
use Rattle.std.specs.Vec.Iter.{into_iter_items}
use Rattle.promise.proofs.Promised.{calls_keep_the_promise, stops_are_deserved}
use Rattle.promise.proofs.Conducting.{made_of, conducted_none, conducted_more, resized, calls_more}
use Rattle.promise.proofs.conduct.conduct.Goals as goal

pub loop-request-preserved : goal.loop-request-preserved
loop-request-preserved g c =
    let at = c.loop-request in
    let going = at.invariant.0 in
    let next : into_iter_items at.request-iterator ≡ c.in-Some.request ∷ into_iter_items c.next.new.self = c.in-Some.ensures.steps.0 in (
      record {
        same_room = c.answer-answer.ensures.same_room ∙ going.same_room;
        in_order = calls_more _ _ _ _ _ going.in_order c.push_reserved.ensures.items (search (rules, c.call-call.ensures));
        conducted = conducted_more _ _ _ _ _ _ _ _ _ _ going.conducted c.call-call.ensures
            (resized _ _ _ _ _ _ _ _ _ _ at.auto.labels at.auto.least going.same_room _ _ _ _ c.answer-answer.ensures.does) (search (rules, c.verdict-after.ensures)) c.push_reserved.ensures.items;
      },
      append_assoc at.yielded (c.in-Some.request ∷ []) _ ∙ rw (← next) at.invariant.1,
      omega (arith, at.invariant.2, c.in-Some.ensures.steps.1, c.push_reserved.ensures.len, c.push_reserved.ensures.capacity),
    )

pub returns-in_err-reserve-clause-promised : goal.returns-in_err-reserve-clause-promised
returns-in_err-reserve-clause-promised g c =
    let none = c.in_err-reserve.ensures.items ∙ c.clear.ensures.items in
    calls_keep_the_promise _ (g.met.T.Tariff.lawful c.args.tariff.now) _ (made_of _ _ _ _ _ _ _ (g.Q.Queue.bag c.args.queue.now)) _ _ (conducted_none _ _ _ _ _ _ c.new-search.ensures none)

pub returns-clause-leaves : goal.returns-clause-leaves
returns-clause-leaves g c =
    let conducted = c.loop-request.invariant.0.conducted in
    (c.loop-request.search, conducted, stops_are_deserved _ (g.met.T.Tariff.lawful c.args.tariff.now) _ (made_of _ _ _ _ _ _ _ (g.Q.Queue.bag c.args.queue.now)) _ _ conducted)
