-- What each refusal and each stop is numbered, and what a refusal carries. Assumes nothing.
use Rattle.std.specs.Prelude.{ℕ, Some, None, Option}
use Rattle.network.specs.declared.refusals.Place.{Place}
use Rattle.network.specs.declared.refusals.Place.TheVariants as place
use Rattle.network.specs.declared.refusals.Refusal.{Refusal}
use Rattle.network.specs.declared.refusals.Refusal.TheVariants as why
use Rattle.network.specs.declared.refusals.Stop.{Stop}
use Rattle.network.specs.declared.refusals.Stop.TheVariants as stop

-- The number of a refusal.
abbrev pub number_of : Refusal → ℕ
number_of (why.Unended line) = 1
number_of (why.UnknownWord line) = 2
number_of (why.OutOfPlace line) = 3
number_of (why.FieldCount line) = 4
number_of (why.FieldForm line) = 5
number_of (why.FieldRange line) = 6
number_of (why.TableFull line) = 7
number_of why.Size = 8
number_of (why.LegRange leg) = 9
number_of why.WrittenLegRange = 9
number_of why.Site = 10
number_of why.Room = 11
number_of why.GoalEstimate = 12
number_of (why.LegEstimate leg) = 12
number_of why.NotOpen = 13
number_of why.NotFound = 14
number_of why.Outside = 15
number_of why.BufferShort = 18

-- Refusals 1 to 7 carry the line; 9 and 12 carry the leg, save 9 of a leg to write and 12 at the goal.
abbrev pub place_of : Refusal → Option Place
place_of (why.Unended line) = Some (place.Line line)
place_of (why.UnknownWord line) = Some (place.Line line)
place_of (why.OutOfPlace line) = Some (place.Line line)
place_of (why.FieldCount line) = Some (place.Line line)
place_of (why.FieldForm line) = Some (place.Line line)
place_of (why.FieldRange line) = Some (place.Line line)
place_of (why.TableFull line) = Some (place.Line line)
place_of why.Size = None
place_of (why.LegRange leg) = Some (place.Leg leg)
place_of why.WrittenLegRange = None
place_of why.Site = None
place_of why.Room = None
place_of why.GoalEstimate = None
place_of (why.LegEstimate leg) = Some (place.Leg leg)
place_of why.NotOpen = None
place_of why.NotFound = None
place_of why.Outside = None
place_of why.BufferShort = None

-- The line that is at fault, where one is.
abbrev pub line_in : Option Place → Option ℕ
line_in None = None
line_in (Some (place.Line line)) = Some line
line_in (Some (place.Leg leg)) = None

abbrev pub line_of : Refusal → Option ℕ
line_of r = line_in (place_of r)

-- The number of a stop.
abbrev pub stop_number_of : Stop → ℕ
stop_number_of stop.Outside = 15
stop_number_of stop.LabelsUsed = 16
stop_number_of stop.QueueFull = 17
