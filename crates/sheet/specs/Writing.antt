-- The text of a leg, and what write makes of a buffer. Assumes nothing.
use Rattle.std.specs.Prelude.{ℕ, ◌+◌, List, [], ◌∷◌, ◌++◌, length, take, drop, Ok, Err, codes, decimal, Result, nat_le, if◌then◌else◌}
use Rattle.network.specs.declared.legs.Leg.{Leg}
use Rattle.network.specs.declared.refusals.Refusal.{Refusal}
use Rattle.network.specs.declared.refusals.Refusal.TheVariants.{WrittenLegRange, BufferShort}
use Rattle.network.specs.Legs.{leg_in_range}

-- A leg's numbers, in the order of its line.
abbrev pub leg_numbers : Leg → List ℕ
leg_numbers l = l.tail ∷ l.head ∷ l.fee ∷ l.grade ∷ l.stated ∷ l.medium ∷ []

-- Numbers in decimal, each after a comma.
unfoldable pub listed : List ℕ → List ℕ
listed [] = []
listed (n ∷ ns) = (44 ∷ decimal n) ++ listed ns

-- A leg's line, with its end byte.
abbrev pub leg_text : Leg → List ℕ
leg_text l = codes "leg" ++ (listed (leg_numbers l) ++ (10 ∷ []))

-- A buffer with this text at a place, and the rest as it was.
abbrev pub laid : List ℕ → ℕ → List ℕ → List ℕ
laid text at buffer = take at buffer ++ (text ++ drop (at + length text) buffer)

-- What writing a leg answers, with a buffer of this room. The leg's ranges come before the room.
abbrev pub written : ℕ → Leg → Result ℕ Refusal
written room l =
    if leg_in_range 1024 l
    then (if nat_le (length (leg_text l)) room then Ok (length (leg_text l)) else Err BufferShort)
    else Err WrittenLegRange

-- The buffer after that answer: refused, it stays as it was.
abbrev pub filled : Result ℕ Refusal → Leg → List ℕ → List ℕ
filled (Ok n) l buffer = laid (leg_text l) 0 buffer
filled (Err e) l buffer = buffer
