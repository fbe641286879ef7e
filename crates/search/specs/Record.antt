-- The search record as it is made, and what it tells. Assumes nothing.
use Rattle.std.specs.Prelude.{Bool, Ok, Err, Result}
use Rattle.network.specs.declared.refusals.Refusal.{Refusal}
use Rattle.network.specs.declared.refusals.Refusal.TheVariants.{NotOpen, NotFound}
use Rattle.worksheet.specs.declared.records.Phase.{Phase}
use Rattle.worksheet.specs.declared.records.Phase.TheVariants as phase
use Rattle.worksheet.specs.Steps.{is_open}
use Rattle.search.specs.declared.record.Action.{Action}
use Rattle.search.specs.declared.record.Action.TheVariants as action
use Rattle.search.specs.declared.record.Search.{Search}
use Rattle.search.specs.declared.record.Standing.{Standing}
use Rattle.search.specs.declared.record.Standing.TheVariants as standing
use Rattle.search.specs.declared.record.Verdict.{Verdict}
use Rattle.search.specs.Calls.{Worksheet}

-- A search record that was never opened.
abbrev pub fresh : Search
fresh = record { query = record { start = 0; goal = 0; limit = 0 }; phase = phase.Fresh; count = 0; steps = 0 }

abbrev pub is_open_in : Search → Bool
is_open_in r = is_open r.phase

-- Which phase admits which call: an open is admitted in every phase, an advance while the search is open, a trace where a
-- label was found.
abbrev pub admission : Phase → Action → Result Unit Refusal
admission q action.Open = Ok tt
admission phase.Open action.Advance = Ok tt
admission q action.Advance = Err NotOpen
admission (phase.Found label mark) action.Trace = Ok tt
admission q action.Trace = Err NotFound

abbrev pub standing_of : Phase → Standing
standing_of phase.Fresh = standing.Fresh
standing_of phase.Open = standing.Open
standing_of (phase.Found label mark) = standing.Found mark
standing_of phase.Exhausted = standing.Exhausted
standing_of (phase.Stopped why) = standing.Stopped why

-- Phase and steps, with the found cost and delay, or with why the search stopped.
abbrev pub verdict_of : Search → Verdict
verdict_of r = record { standing = standing_of r.phase; steps = r.steps }

-- The search record of a worksheet, and the verdict on it.
abbrev pub search_of : Worksheet → Search
search_of w = record { query = w.query; phase = w.state.phase; count = w.state.count; steps = w.state.steps }

abbrev pub verdict_on : Worksheet → Verdict
verdict_on w = verdict_of (search_of w)
