-- What the test of a leg's ranges tells. Assumes nothing.
use Rattle.std.proofs.Common.{◌≡◌, ℕ, ◌<◌, ◌≤◌, true, arith}
use Rattle.std.proofs.lemmas.Bool.Decides.{nat_tests}
use Rattle.network.specs.declared.legs.Leg.{Leg}
use Rattle.network.specs.Legs.{leg_in_range}

-- the ranges of the fields, one by one
pub record InRange (n : ℕ) (leg : Leg) : Type 0 where
  pub tail : leg.tail < n
  pub head : leg.head < n
  pub fee : leg.fee ≤ 1000000
  pub grade : leg.grade ≤ 255
  pub stated : leg.stated ≤ 100000
  pub medium : leg.medium ≤ 7

pub ranges : (n : ℕ) (leg : Leg) → leg_in_range n leg ≡ true → InRange n leg
ranges n leg e = record {
  tail = grind (arith, nat_tests);
  head = grind (arith, nat_tests);
  fee = grind (arith, nat_tests);
  grade = grind (arith, nat_tests);
  stated = grind (arith, nat_tests);
  medium = grind (arith, nat_tests);
}
