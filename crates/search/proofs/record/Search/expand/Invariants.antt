use Rattle.std.proofs.Common.{◌*◌, drop}
use Rattle.network.specs.Checks.{legs_of}
use Rattle.search.specs.Calls.{setting_of, worksheet}
use Rattle.search.proofs.Trying.{Expanding}
use Rattle.search.proofs.record.Search.expand.Given as goal

abbrev pub invariant-loop-i : goal.invariant-loop-i
invariant-loop-i g l =
    let q = g.Q.Queue in
    let s = setting_of g.T.Tariff.terms g.E.Estimate.at l.lent l.initial.labels l.least (q.room l.initial.queue) in
    let w₀ = worksheet l.initial.self l.initial.labels l.least (q.bag l.initial.queue) in
    let w = worksheet l.self l.labels l.least (q.bag l.queue) in
    let legs = legs_of l.lent.network.now l.lent.table.now in
    Expanding s w₀ l.from.number l.from.label 0 legs w (q.room l.queue) (l.i * 16) (drop (l.i * 16) legs)
