use Rattle.std.proofs.Common.{length}
use Rattle.search.proofs.Traces.{Counted}
use Rattle.search.proofs.tracing.Chain.length.Given as goal

abbrev pub invariant-loop-at : goal.invariant-loop-at
invariant-loop-at l = Counted l.self.legs (length l.self.labels.now) l.self.labels.now l.self.found l.at l.count

abbrev pub decreases-loop-at : goal.decreases-loop-at
decreases-loop-at l = l.at
