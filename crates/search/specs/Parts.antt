-- What the functions under the calls answer and leave, beside what a step decides. Assumes nothing.
use Rattle.std.specs.Prelude.{ℕ, Bool, ◌&&◌, List, ◌++◌, length, drop, Some, None, Ok, Err, Option, Result, option_map, []}
use Rattle.std.specs.List.{list_all}
use Rattle.network.specs.declared.legs.Leg.{Leg}
use Rattle.network.specs.declared.legs.Network.{Network}
use Rattle.network.specs.declared.refusals.Stop.{Stop}
use Rattle.network.specs.Checks.{legs_of}
use Rattle.worksheet.specs.declared.records.Phase.{Phase}
use Rattle.worksheet.specs.declared.records.Phase.TheVariants.{Stopped}
use Rattle.worksheet.specs.Problem.{is_whole}
use Rattle.worksheet.specs.Steps.{State, in_phase, leads_inside}
use Rattle.search.specs.declared.tracing.Chain.{Chain}
use Rattle.search.specs.Calls.{Worksheet, chain_from}

-- The worksheet with another state.
abbrev pub with_state : Worksheet → State → Worksheet
with_state w s = record w { state = s }

-- The leg table holds all legs, and each of them is inside, whatever its tail.
abbrev pub all_inside : ℕ → Network → List Leg → Bool
all_inside records net table = is_whole net table && list_all (leads_inside records) (legs_of net table)

-- A worksheet in the phase that an answer gives, by what it carries: the search stops where the answer says why.
abbrev pub in_phase_by : {X : Type 0} → (X → Phase) → Result X Stop → Worksheet → Worksheet
in_phase_by phase_of (Ok x) w = with_state w (in_phase (phase_of x) w.state)
in_phase_by phase_of (Err why) w = with_state w (in_phase (Stopped why) w.state)

-- The legs of a chain, first to last, unless a number leads outside.
abbrev pub chain_of : Chain → Option (List ℕ)
chain_of c = chain_from c.legs (length c.labels.now) c.labels.now c.found c.found []

-- How long a chain is.
abbrev pub chain_length : Option (List ℕ) → Option ℕ
chain_length = option_map length

-- A buffer with a chain at its start.
abbrev pub laid : Option (List ℕ) → List ℕ → List ℕ
laid None b = b
laid (Some js) b = js ++ drop (length js) b
