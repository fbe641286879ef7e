-- When a network and its leg table are refused. Assumes nothing.
use Rattle.std.specs.Prelude.{ℕ, Bool, not, ◌&&◌, List, length, take, Some, None, Ok, Err, Option, Result, nat_le, if◌then◌else◌}
use Rattle.std.specs.List.{position_from}
use Rattle.network.specs.declared.legs.Leg.{Leg}
use Rattle.network.specs.declared.legs.Network.{Network}
use Rattle.network.specs.declared.refusals.Refusal.{Refusal}
use Rattle.network.specs.declared.refusals.Refusal.TheVariants as why
use Rattle.network.specs.Legs.{leg_in_range}

-- What a call answers that is refused or is not.
abbrev pub answer_by : Option Refusal → Result Unit Refusal
answer_by None = Ok tt
answer_by (Some why) = Err why

-- The legs that a network has: the front of its table.
abbrev pub legs_of : Network → List Leg → List Leg
legs_of net table = take net.legs table

-- The number of the first leg, counted from i, that does not pass.
unfoldable pub first_failing : (Leg → Bool) → ℕ → List Leg → Option ℕ
first_failing passes i legs = position_from (λ leg. not (passes leg)) i legs

-- There are 1 to 1,024 sites and 0 to 4,096 legs, all of them in the table.
abbrev pub sizes_fit : Network → ℕ → Bool
sizes_fit net table = nat_le 1 net.sites && (nat_le net.sites 1024 && (nat_le net.legs 4096 && nat_le net.legs table))

-- Refusal by a leg, where there is one.
abbrev pub unless_leg : (ℕ → Refusal) → Option ℕ → Option Refusal → Option Refusal
unless_leg why None rest = rest
unless_leg why (Some j) rest = Some (why j)

-- Refusal where a test fails.
abbrev pub unless : Bool → Refusal → Option Refusal → Option Refusal
unless passed why rest = if passed then rest else Some why

-- The sizes, then the first leg with a field outside its range, then what else there is to refuse. (A call with a limit of its
-- own tests that before, since it has the number of the sizes.)
unfoldable pub network_refusal : Network → List Leg → Option Refusal → Option Refusal
network_refusal net table rest =
    unless (sizes_fit net (length table)) why.Size
    (unless_leg why.LegRange (first_failing (leg_in_range net.sites) 0 (legs_of net table)) rest)
