-- What a tariff means, and the laws that it keeps. Assumes nothing.
use Rattle.std.specs.Prelude.{◌≡◌, ℕ, ◌+◌, ◌-◌, ◌^◌, ◌<◌, ◌≤◌, min, max}

-- A price for every fee and grade of a leg, and a joined cost for every two costs. A price is a cost.
pub record Terms : Type 0 where
  pub price : ℕ → ℕ → ℕ
  pub join : ℕ → ℕ → ℕ

-- Costs have 64 bits, in the usual order. Joining with 0 on either side gives the other cost; joining a and b, then c,
-- equals joining a with the joining of b and c; if a is at most b, joining both with c on the same side keeps that order.
pub record Lawful (t : Terms) : Type 0 where
  pub prices : (fee grade : ℕ) → fee < 2 ^ 32 → grade < 2 ^ 8 → t.price fee grade < 2 ^ 64
  pub joins : (a b : ℕ) → a < 2 ^ 64 → b < 2 ^ 64 → t.join a b < 2 ^ 64
  pub zero_left : (a : ℕ) → a < 2 ^ 64 → t.join 0 a ≡ a
  pub zero_right : (a : ℕ) → a < 2 ^ 64 → t.join a 0 ≡ a
  pub associative : (a b c : ℕ) → a < 2 ^ 64 → b < 2 ^ 64 → c < 2 ^ 64 → t.join (t.join a b) c ≡ t.join a (t.join b c)
  pub ordered_left : (a b c : ℕ) → a ≤ b → b < 2 ^ 64 → c < 2 ^ 64 → t.join a c ≤ t.join b c
  pub ordered_right : (a b c : ℕ) → a ≤ b → b < 2 ^ 64 → c < 2 ^ 64 → t.join c a ≤ t.join c b

-- A leg's price is its fee, and costs are added; the sum stays at the largest number of 64 bits once there.
abbrev pub total_fee : Terms
total_fee = record { price = λ fee grade. fee; join = λ a b. min (a + b) (2 ^ 64 - 1) }

-- A leg's price is its grade, and the larger of two costs is taken.
abbrev pub worst_grade : Terms
worst_grade = record { price = λ fee grade. grade; join = max }
