use Rattle.std.proofs.Common.{arith}
use Rattle.network.specs.Legs.{leg_delay}
use Rattle.network.proofs.legs.Leg.delay.Goals as goal

pub returns-clause-value : goal.returns-clause-value
unfolding leg_delay
returns-clause-value c = omega (arith, c.from.ensures, c.from-2.ensures, c.handover.ensures.value)
