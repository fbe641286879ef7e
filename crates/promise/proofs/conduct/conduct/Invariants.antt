use Rattle.std.proofs.Common.{◌≡◌, ◌+◌, ◌≤◌, ◌++◌, vec_items, vec_len, vec_capacity}
use Rattle.std.specs.Vec.Iter.{into_iter_items, into_iter_len}
use Rattle.search.specs.Record.{fresh}
use Rattle.search.specs.Calls.{setting, worksheet}
use Rattle.promise.proofs.Conducting.{Conducting}
use Rattle.promise.proofs.conduct.conduct.Given as goal

abbrev pub invariant-loop-request : goal.invariant-loop-request
invariant-loop-request g l =
    let q = g.Q.Queue in
    let s = setting l.network l.table (g.T.Tariff.terms l.tariff) (g.E.Estimate.at l.estimate) l.initial.labels l.initial.least (q.room l.initial.queue) in
    let w₀ = worksheet fresh l.initial.labels l.initial.least (q.bag l.initial.queue) in
    Conducting s w₀ l.yielded (q.room l.queue) (worksheet l.search l.labels l.least (q.bag l.queue)) (vec_items l.events)
    × (l.yielded ++ into_iter_items l.request-iterator ≡ into_iter_items l.initial.request-iterator)
    × (vec_len l.events + into_iter_len l.request-iterator ≤ vec_capacity l.events)
