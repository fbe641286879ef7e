use Rattle.std.proofs.Common.{◌-◌}
use Rattle.sheet.proofs.Loading.{LegsRead}
use Rattle.sheet.proofs.reader.Reader.read_legs.Given as goal

abbrev pub invariant-loop-ahead : goal.invariant-loop-ahead
invariant-loop-ahead l = LegsRead l.sites l.initial.self l.self l.initial.table l.table l.count

abbrev pub decreases-loop-ahead : goal.decreases-loop-ahead
decreases-loop-ahead l = 4096 - l.count
