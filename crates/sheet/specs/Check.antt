-- What checking a whole sheet comes to. Assumes nothing.
use Rattle.std.specs.Prelude.{ℕ, Bool, true, List, [], ◌∷◌, drop, Ok, Err, Result, if◌then◌else◌}
use Rattle.std.specs.Result.{result_and}
use Rattle.network.specs.declared.legs.Network.{Network}
use Rattle.network.specs.declared.plans.Plan.{Plan}
use Rattle.network.specs.declared.refusals.Refusal.{Refusal}
use Rattle.network.specs.declared.refusals.Refusal.TheVariants.{OutOfPlace}
use Rattle.sheet.specs.declared.check.Summary.{Summary}
use Rattle.sheet.specs.Text.{Row, lines}
use Rattle.sheet.specs.Sheets.{row_kind, and_then, plan_stated, one_more, loaded_from, Load}

-- Counting goes on after a plan, and ends at a refusal.
abbrev pub on_plan : Result Plan Refusal → Result ℕ Refusal → Result ℕ Refusal
on_plan o more = result_and o more

-- How many plans the lines that are left state, after so many plans, or the first refusal of a line.
unfoldable pub plans_from : Bool → ℕ → ℕ → ℕ → List Row → Result ℕ Refusal
plans_from loaded n line plans [] = if loaded then Ok plans else Err (OutOfPlace line)
plans_from loaded n line plans (r ∷ rs) =
    on_plan (and_then (row_kind line r) (plan_stated loaded n line)) (plans_from loaded n (one_more line) (one_more plans) rs)

-- The sheet's numbers, or the first refusal.
abbrev pub summed : Network → Result ℕ Refusal → Result Summary Refusal
summed net (Err e) = Err e
summed net (Ok plans) = Ok (record { network = net; plans = plans })

abbrev pub with_plans : Result Network Refusal → (Network → Result ℕ Refusal) → Result Summary Refusal
with_plans (Err e) plans = Err e
with_plans (Ok net) plans = summed net (plans net)

-- The plans that follow what a load read.
abbrev pub plans_after : List ℕ → Load → Network → Result ℕ Refusal
plans_after sheet o net = plans_from true net.sites o.line 0 (lines (drop o.at sheet))

-- A sheet is sound if it loads, with a table of this room, and each line after that states a plan. It then has this many
-- sites, legs and plans; otherwise its first refusal is answered.
abbrev pub checked : ℕ → List ℕ → Result Summary Refusal
checked room sheet = with_plans (loaded_from room (lines sheet)).outcome (plans_after sheet (loaded_from room (lines sheet)))
