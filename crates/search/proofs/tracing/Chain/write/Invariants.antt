use Rattle.std.proofs.Common.{length}
use Rattle.search.proofs.Traces.{Laying}
use Rattle.search.proofs.tracing.Chain.write.Given as goal

abbrev pub invariant-loop-origin : goal.invariant-loop-origin
invariant-loop-origin l = Laying l.self.legs (length l.self.labels.now) l.self.labels.now l.self.found l.at l.place l.count l.buffer l.initial.buffer

abbrev pub decreases-loop-origin : goal.decreases-loop-origin
decreases-loop-origin l = l.place
