-- What is written reads back as what it was. Assumes nothing.
use Rattle.std.specs.Prelude.{◌≡◌, ℕ, ◌≤◌, Bool, true, ◌&&◌, List, [], ◌∷◌, ◌++◌, length, Ok, codes}
use Rattle.network.specs.declared.legs.Leg.{Leg}
use Rattle.sheet.specs.Text.{lines}
use Rattle.network.specs.Legs.{leg_in_range}
use Rattle.sheet.specs.Sheets.{loaded_from, sized}
use Rattle.sheet.specs.Writing.{leg_text}

abbrev pub all_in_range : List Leg → Bool
all_in_range [] = true
all_in_range (l ∷ ls) = leg_in_range 1024 l && all_in_range ls

-- The lines of legs, one after another.
abbrev pub leg_texts : List Leg → List ℕ
leg_texts [] = []
leg_texts (l ∷ ls) = leg_text l ++ leg_texts ls

-- A sheet of a network of 1,024 sites with this text after its first line.
abbrev pub sheet_of : List ℕ → List ℕ
sheet_of text = (codes "network,1024" ++ (10 ∷ [])) ++ text

-- Legs in range, written one after another below `network,1024`, load as themselves.
abbrev pub WrittenLegsReadBack : Type 0
WrittenLegsReadBack =
    (ls : List Leg) (room : ℕ) → all_in_range ls ≡ true → length ls ≤ room → length ls ≤ 4096
    → ((loaded_from room (lines (sheet_of (leg_texts ls)))).outcome ≡ Ok (sized 1024 ls)) × ((loaded_from room (lines (sheet_of (leg_texts ls)))).legs ≡ ls)

-- This text, below `network,1024`, loads as this leg and no other.
abbrev pub WrittenLegReadsBack : List ℕ → Leg → Type 0
WrittenLegReadsBack text l =
    (room : ℕ) → 1 ≤ room
    → ((loaded_from room (lines (sheet_of text))).outcome ≡ Ok (sized 1024 (l ∷ []))) × ((loaded_from room (lines (sheet_of text))).legs ≡ l ∷ [])
