-- The lines that answer plans. Assumes nothing.
use Rattle.std.specs.Prelude.{ℕ, List, [], ◌∷◌, ◌++◌, Some, None, codes, Option}
use Rattle.network.specs.declared.plans.Plan.{Plan}
use Rattle.network.specs.Refusals.{number_of, stop_number_of}
use Rattle.search.specs.declared.record.Standing.{Standing}
use Rattle.search.specs.declared.record.Standing.TheVariants as standing
use Rattle.search.specs.declared.record.Verdict.{Verdict}
use Rattle.sheet.specs.Writing.{listed}
use Rattle.report.specs.declared.lines.Refused.{Refused}

-- A word, numbers in decimal, each after a comma, and the end byte.
abbrev pub text_line : List ℕ → List ℕ → List ℕ
text_line word numbers = word ++ (listed numbers ++ (10 ∷ []))

-- The line of a plan that came to this, in so many steps, with the legs of its route: `route,BROKER,STEPS,COST,DELAY` and each
-- leg number, `none,BROKER,STEPS`, `open,BROKER,STEPS`, or `stop,BROKER,STEPS,NUMBER`.
abbrev pub standing_line : ℕ → ℕ → List ℕ → Standing → List ℕ
standing_line broker steps legs standing.Fresh = text_line (codes "open") (broker ∷ steps ∷ [])
standing_line broker steps legs standing.Open = text_line (codes "open") (broker ∷ steps ∷ [])
standing_line broker steps legs (standing.Found m) = text_line (codes "route") ((broker ∷ steps ∷ m.cost ∷ m.delay ∷ []) ++ legs)
standing_line broker steps legs standing.Exhausted = text_line (codes "none") (broker ∷ steps ∷ [])
standing_line broker steps legs (standing.Stopped why) = text_line (codes "stop") (broker ∷ steps ∷ stop_number_of why ∷ [])

abbrev pub plan_line : Plan → Verdict → List ℕ → List ℕ
plan_line p v legs = standing_line p.broker v.steps legs v.standing

-- `refuse,NUMBER,LINE`.
abbrev pub refusal_line : Refused → List ℕ
refusal_line r = text_line (codes "refuse") (number_of r.why ∷ r.line ∷ [])

-- The last line, if the answers ended with a refusal.
abbrev pub end_line : Option Refused → List ℕ
end_line None = []
end_line (Some r) = refusal_line r

-- The first line of every answer.
abbrev pub header : List ℕ
header = codes "result,broker,steps,cost,delay,legs\n"
