use Rattle.std.proofs.Common.{◌+◌, drop}
use Rattle.search.specs.Calls.{setting_of, worksheet}
use Rattle.search.proofs.Trying.{Expanding}
use Rattle.search.proofs.record.Search.try_each.Given as goal

abbrev pub invariant-loop-i : goal.invariant-loop-i
invariant-loop-i g l =
    let q = g.Q.Queue in
    let s = setting_of g.T.Tariff.terms g.E.Estimate.at l.lent l.initial.labels l.least (q.room l.initial.queue) in
    let w₀ = worksheet l.initial.self l.initial.labels l.least (q.bag l.initial.queue) in
    let w = worksheet l.self l.labels l.least (q.bag l.queue) in
    Expanding s w₀ l.from.number l.from.label l.first l.legs w (q.room l.queue) (l.first + l.i) (drop l.i l.legs)
