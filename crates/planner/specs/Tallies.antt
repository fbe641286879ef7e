-- What stands on a tally of steps, and what taking steps off it leaves. Assumes nothing.
use Rattle.std.specs.Prelude.{ℕ, ◌-◌}
use Rattle.planner.specs.declared.tally.Tally.{Tally}

-- A tally with so many steps left.
abbrev pub allowing : ℕ → Tally
allowing n = record { steps = n }

-- The tally at the start of a sheet: 50,000 steps.
abbrev pub whole : Tally
whole = allowing 50000

-- What is left for a broker. All brokers draw on one record.
abbrev pub left_for : Tally → ℕ → ℕ
left_for t broker = t.steps

-- The tally with n steps taken off what is left for a broker; nothing is left where there are too few.
abbrev pub reduced : Tally → ℕ → ℕ → Tally
reduced t broker n = allowing (t.steps - n)
