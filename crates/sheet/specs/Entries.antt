-- What a line of each kind states: the numbers of its fields, each in its range. Assumes nothing.
use Rattle.std.specs.Prelude.{ℕ, ◌&&◌, List, Some, None, Ok, Err, Option, Result, nat_le, slice_index, if◌then◌else◌, ok_or}
use Rattle.network.specs.declared.legs.Leg.{Leg}
use Rattle.network.specs.declared.plans.Plan.{Plan}
use Rattle.network.specs.declared.refusals.Refusal.{Refusal}
use Rattle.network.specs.declared.refusals.Refusal.TheVariants.{FieldCount, FieldForm, FieldRange}
use Rattle.sheet.specs.declared.text.Fault.{Fault}
use Rattle.sheet.specs.declared.text.Fault.TheVariants.{Count, Form}
use Rattle.network.specs.Legs.{leg_in_range}
use Rattle.network.specs.Plans.{plan_in_range}
use Rattle.sheet.specs.Numbers.{numbers_of}

-- The fields of `leg,tail,head,fee,grade,delay,medium` and of `plan,broker,start,goal,limit`, in order.
abbrev pub leg_with : List ℕ → Leg
leg_with vs = record { tail = slice_index vs 0; head = slice_index vs 1; fee = slice_index vs 2; grade = slice_index vs 3; stated = slice_index vs 4; medium = slice_index vs 5 }

abbrev pub plan_with : List ℕ → Plan
plan_with vs = record { broker = slice_index vs 0; start = slice_index vs 1; goal = slice_index vs 2; limit = slice_index vs 3 }

-- A leg, a plan and a number of sites (1 to 1,024), if their fields are in range.
abbrev pub leg_of : ℕ → List ℕ → Option Leg
leg_of n vs = if leg_in_range n (leg_with vs) then Some (leg_with vs) else None

abbrev pub plan_of : ℕ → List ℕ → Option Plan
plan_of n vs = if plan_in_range n (plan_with vs) then Some (plan_with vs) else None

abbrev pub sites_of : List ℕ → Option ℕ
sites_of vs = if (nat_le 1 (slice_index vs 0) && nat_le (slice_index vs 0) 1024) then Some (slice_index vs 0) else None

-- The refusal of a line by the fault of its fields.
abbrev pub refused_by : ℕ → Fault → Refusal
refused_by line Count = FieldCount line
refused_by line Form = FieldForm line

-- The range is tested once the numbers are known.
abbrev pub in_range : {X : Type 0} → ℕ → Option X → Result X Refusal
in_range line o = ok_or o (FieldRange line)

abbrev pub entry_by : {X : Type 0} → ℕ → (List ℕ → Option X) → Result (List ℕ) Fault → Result X Refusal
entry_by line f (Err e) = Err (refused_by line e)
entry_by line f (Ok vs) = in_range line (f vs)

-- What a line with these fields states, or its first refusal: their number, then the form of each, then the range of each.
abbrev pub leg_entry : ℕ → ℕ → List (List ℕ) → Result Leg Refusal
leg_entry n line fs = entry_by line (leg_of n) (numbers_of 6 fs)

abbrev pub plan_entry : ℕ → ℕ → List (List ℕ) → Result Plan Refusal
plan_entry n line fs = entry_by line (plan_of n) (numbers_of 4 fs)

abbrev pub network_entry : ℕ → List (List ℕ) → Result ℕ Refusal
network_entry line fs = entry_by line sites_of (numbers_of 1 fs)
