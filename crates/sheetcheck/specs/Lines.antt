-- The lines that tell what a sheet has, or its first refusal, and what its plans come to at the least. Assumes nothing.
use Rattle.std.specs.Prelude.{◌≡◌, ℕ, true, List, [], ◌++◌, is_err, Some, None, Ok, Err, codes, decimal, unwrap_or, Option, Result}
use Rattle.network.specs.declared.estimates.Bound.{Bound}
use Rattle.network.specs.declared.plans.Plan.{Plan}
use Rattle.network.specs.declared.refusals.Refusal.{Refusal}
use Rattle.network.specs.Refusals.{line_of, number_of}
use Rattle.sheet.specs.declared.check.Summary.{Summary}

-- The line that a refusal carries; 0 where it carries none.
abbrev pub line_at_fault : Refusal → ℕ
line_at_fault r = unwrap_or (line_of r) 0

-- `ok,SITES,LEGS,PLANS` or `refuse,NUMBER,LINE`.
abbrev pub answer_line : Result Summary Refusal → List ℕ
answer_line (Ok s) = codes "ok," ++ (decimal s.network.sites ++ (codes "," ++ (decimal s.network.legs ++ (codes "," ++ decimal s.plans))))
answer_line (Err r) = codes "refuse," ++ (decimal (number_of r) ++ (codes "," ++ decimal (line_at_fault r)))

-- The header, and the answer.
abbrev pub top_lines : Result Summary Refusal → List ℕ
top_lines a = (codes "sheet,sites,legs,plans\n" ++ answer_line a) ++ codes "\n"

-- The text begins with these two lines, and has no more of a sheet that is refused.
pub record Tells (a : Result Summary Refusal) (text : List ℕ) : Type 0 where
  pub plans : List ℕ
  pub lines : text ≡ top_lines a ++ plans
  pub no_more : is_err a ≡ true → plans ≡ []

-- `BROKER,START,GOAL,LIMIT`.
abbrev pub asked_by : Plan → List ℕ
asked_by p = decimal p.broker ++ (codes "," ++ (decimal p.start ++ (codes "," ++ (decimal p.goal ++ (codes "," ++ decimal p.limit)))))

-- `bounds,BROKER,START,GOAL,LIMIT,CHEAPEST,FASTEST`, or `unreachable,BROKER,START,GOAL,LIMIT`, with the end byte.
abbrev pub plan_line : Plan → Option Bound → List ℕ
plan_line p (Some b) = codes "bounds," ++ (asked_by p ++ (codes "," ++ (decimal b.cost ++ (codes "," ++ (decimal b.delay ++ codes "\n")))))
plan_line p None = codes "unreachable," ++ (asked_by p ++ codes "\n")
