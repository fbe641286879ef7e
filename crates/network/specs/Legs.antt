-- Legs: the range of each field, and what a leg's delay is. Assumes nothing.
use Rattle.std.specs.Prelude.{ℕ, ◌+◌, Bool, ◌&&◌, List, [], ◌∷◌, nat_le, nat_lt, slice_index}
use Rattle.network.specs.declared.legs.Leg.{Leg}

-- The handover delay of a medium: 0, 5, 12, 20, 35, 60, 90 or 150 microseconds for the media 0 to 7.
abbrev pub handovers : List ℕ
handovers = 0 ∷ 5 ∷ 12 ∷ 20 ∷ 35 ∷ 60 ∷ 90 ∷ 150 ∷ []

abbrev pub handover : ℕ → ℕ
handover medium = slice_index handovers medium

-- A leg's delay is its stated delay plus the handover delay of its medium. What else is proved of routes uses the laws
-- of this name (proofs/Delays.antt) and not its text.
unfoldable pub leg_delay : Leg → ℕ
leg_delay leg = leg.stated + handover leg.medium

-- Its sites are below n, its fee is at most 1,000,000, its grade at most 255, its stated delay at most 100,000
-- microseconds and its medium at most 7.
abbrev pub leg_in_range : ℕ → Leg → Bool
leg_in_range n leg =
    nat_lt leg.tail n
    && (nat_lt leg.head n
    && (nat_le leg.fee 1000000
    && (nat_le leg.grade 255
    && (nat_le leg.stated 100000
    && nat_le leg.medium 7))))
