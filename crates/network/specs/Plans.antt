-- Plans: the range of each field. Assumes nothing.
use Rattle.std.specs.Prelude.{ℕ, Bool, ◌&&◌, nat_le, nat_lt}
use Rattle.network.specs.declared.plans.Plan.{Plan}

-- The broker is at most 999, both sites are below n, and the limit is at most 1,000,000 microseconds.
abbrev pub plan_in_range : ℕ → Plan → Bool
plan_in_range n plan = nat_le plan.broker 999 && (nat_lt plan.start n && (nat_lt plan.goal n && nat_le plan.limit 1000000))
