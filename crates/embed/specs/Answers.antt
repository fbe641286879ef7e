-- What a request asks as a plan, and its answer as a record. Assumes nothing.
use Rattle.std.specs.Prelude.{ℕ, List, []}
use Rattle.network.specs.declared.plans.Plan.{Plan}
use Rattle.network.specs.declared.refusals.Refusal.{Refusal}
use Rattle.network.specs.Refusals.{number_of, stop_number_of}
use Rattle.search.specs.declared.record.Standing.{Standing}
use Rattle.search.specs.declared.record.Standing.TheVariants as standing
use Rattle.search.specs.declared.record.Verdict.{Verdict}
use Rattle.embed.specs.declared.serving.Answer.{Answer}
use Rattle.embed.specs.declared.serving.Request.{Request}
use Rattle.embed.specs.Records.{line_at_fault}

-- The plan that a request puts, for broker 0.
abbrev pub plan_of : Request → Plan
plan_of q = record { broker = 0; start = q.start; goal = q.goal; limit = q.limit }

-- Outcome 6: memory is short.
abbrev pub memory_short : Answer
memory_short = record { steps = 0; cost = 0; line = 0; legs = 0; delay = 0; outcome = 6; number = 0 }

-- Outcome 5: a refusal, by its number, with the line at fault.
abbrev pub refusal_record : Refusal → Answer
refusal_record why = record { steps = 0; cost = 0; line = line_at_fault why; legs = 0; delay = 0; outcome = 5; number = number_of why }

-- What a search came to in so many steps: a route is outcome 1, with its cost, its delay and the number of its legs, none is 2, a
-- search that is still open is 3, and one that was stopped is 4, with its number.
abbrev pub standing_record : ℕ → ℕ → Standing → Answer
standing_record steps legs standing.Fresh = record { steps = steps; cost = 0; line = 0; legs = 0; delay = 0; outcome = 3; number = 0 }
standing_record steps legs standing.Open = record { steps = steps; cost = 0; line = 0; legs = 0; delay = 0; outcome = 3; number = 0 }
standing_record steps legs (standing.Found m) = record { steps = steps; cost = m.cost; line = 0; legs = legs; delay = m.delay; outcome = 1; number = 0 }
standing_record steps legs standing.Exhausted = record { steps = steps; cost = 0; line = 0; legs = 0; delay = 0; outcome = 2; number = 0 }
standing_record steps legs (standing.Stopped why) = record { steps = steps; cost = 0; line = 0; legs = 0; delay = 0; outcome = 4; number = stop_number_of why }

abbrev pub verdict_record : Verdict → ℕ → Answer
verdict_record v legs = standing_record v.steps legs v.standing

-- The legs that are told: those of the route, where one is found.
abbrev pub told_legs : Standing → List ℕ → List ℕ
told_legs (standing.Found m) legs = legs
told_legs s legs = []
