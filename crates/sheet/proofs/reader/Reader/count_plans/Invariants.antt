use Rattle.std.proofs.Common.{◌≡◌, length}
use Rattle.sheet.specs.Calls.{rows_left}
use Rattle.sheet.specs.Check.{plans_from}
use Rattle.sheet.proofs.reader.Reader.count_plans.Given as goal

abbrev pub invariant-loop-plans : goal.invariant-loop-plans
invariant-loop-plans l =
    plans_from l.self.loaded l.network.sites l.self.line l.plans (rows_left l.self) ≡ plans_from l.initial.self.loaded l.network.sites l.initial.self.line 0 (rows_left l.initial.self)

abbrev pub decreases-loop-plans : goal.decreases-loop-plans
decreases-loop-plans l = length (rows_left l.self)
