-- What the tariff and the estimate of this crate mean, and when the estimate is lawful. Assumes nothing.
use Rattle.std.specs.Prelude.{◌≡◌, ℕ, ◌+◌, ◌-◌, ◌*◌, ◌^◌, ◌<◌, min, Bool, true, false, List, length, None, Option, ◌==◌, if◌then◌else◌}
use Rattle.std.specs.List.{list_any}
use Rattle.network.specs.declared.estimates.Bound.{Bound}
use Rattle.network.specs.Estimates.{blank_at, LawfulTowards}
use Rattle.network.specs.Tariffs.{Terms}
use Rattle.network.specs.Walks.{Graph, leg_at}

-- A leg's price is its fee and 2 for each step of its grade, and costs are added; the sum stays at the largest number of 64 bits
-- once there.
abbrev pub fee_and_grade : Terms
fee_and_grade = record { price = λ fee grade. fee + 2 * grade; join = λ a b. min (a + b) (2 ^ 64 - 1) }

-- The site is one of these.
abbrev pub is_among : List ℕ → ℕ → Bool
is_among sites site = list_any (λ s. s == site) sites

-- The sites of a region are cut off; from any other there may be nothing left to pay or to wait.
abbrev pub outside_at : List ℕ → ℕ → Option Bound
outside_at region site = if is_among region site then None else blank_at site

-- The goal is outside the region, and no leg leads out of it.
pub record Encloses (g : Graph) (region : List ℕ) (goal : ℕ) : Type 0 where
  pub goal_is_outside : is_among region goal ≡ false
  pub no_leg_leads_out : (j : ℕ) → j < length g.legs → is_among region (leg_at g j).tail ≡ true → is_among region (leg_at g j).head ≡ true

-- An estimate that cuts off such a region is lawful, under every tariff.
abbrev pub EnclosedRegionIsLawful : Type 0
EnclosedRegionIsLawful = (g : Graph) (region : List ℕ) (goal : ℕ) → Encloses g region goal → LawfulTowards g (outside_at region) goal
