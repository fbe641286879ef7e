use Rattle.std.proofs.Common.{length}
use Rattle.network.specs.Walks.{graph}
use Rattle.reach.proofs.Measures.{height}
use Rattle.reach.proofs.Relaxing.{Witnesses}
use Rattle.reach.proofs.tables.settle.Given as goal

abbrev pub invariant-passes : goal.invariant-passes
invariant-passes g l = Witnesses (graph (g.T.Tariff.terms l.tariff) l.legs) (length l.initial.costs) l.goal (record { costs = l.costs; delays = l.delays })

abbrev pub decreases-passes : goal.decreases-passes
decreases-passes g l = height (record { costs = l.costs; delays = l.delays })
