use Rattle.std.proofs.Common.{◌-◌}
use Rattle.search.specs.Calls.{setting, worksheet}
use Rattle.search.proofs.Runs.{Running}
use Rattle.search.proofs.record.Search.advance.Given as goal

abbrev pub invariant-loop-made : goal.invariant-loop-made
invariant-loop-made g l =
    let q = g.Q.Queue in
    let s = setting l.network l.table (g.T.Tariff.terms l.tariff) (g.E.Estimate.at l.estimate) l.initial.labels l.initial.least (q.room l.initial.queue) in
    let w₀ = worksheet l.initial.self l.initial.labels l.initial.least (q.bag l.initial.queue) in
    let w = worksheet l.self l.labels l.least (q.bag l.queue) in
    Running s l.allowance w₀ w (q.room l.queue) l.made

abbrev pub decreases-loop-made : goal.decreases-loop-made
decreases-loop-made g l = l.allowance - l.made
