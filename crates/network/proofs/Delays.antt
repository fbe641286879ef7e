-- The laws of a leg's delay. Assumes nothing.
use Rattle.std.proofs.Common.{◌≡◌, ℕ, ◌≤◌, true, arith, lit≤}
use Rattle.std.specs.List.{AllByRecursion}
use Rattle.std.proofs.ByRecursion.{All-get_or}
use Rattle.network.specs.declared.legs.Leg.{Leg}
use Rattle.network.specs.Legs.{handovers, leg_delay, leg_in_range}
use Rattle.network.proofs.Ranges.{ranges}

-- every handover delay is small
handovers_small : AllByRecursion (λ h. h ≤ 150) handovers
handovers_small = (lit≤ tt, (lit≤ tt, (lit≤ tt, (lit≤ tt, (lit≤ tt, (lit≤ tt, (lit≤ tt, (lit≤ tt, tt))))))))

-- a leg in range takes at most 4,000,000 microseconds: so loose a bound that it outlasts other rules for a leg's delay
pub leg_delay_bounded : (n : ℕ) (leg : Leg) → leg_in_range n leg ≡ true → leg_delay leg ≤ 4000000
unfolding leg_delay
leg_delay_bounded n leg e =
    let r = ranges n leg e in
    let small = All-get_or (λ h. h ≤ 150) handovers leg.medium 0 (omega (arith, r.medium)) handovers_small in
    omega (arith, r.stated)
