-- Which numbers apply to an open, with what each carries. Assumes nothing.
use Rattle.std.specs.Prelude.{◌≡◌, ℕ, ◌<◌, Bool, true, false, ◌&&◌, List, length, Some, None, Option, slice_index_or}
use Rattle.network.specs.declared.legs.Leg.{Leg}
use Rattle.network.specs.declared.refusals.Place.{Place}
use Rattle.network.specs.declared.refusals.Place.TheVariants as place
use Rattle.network.specs.declared.refusals.Refusal.{Refusal}
use Rattle.network.specs.Checks.{legs_of, sizes_fit}
use Rattle.network.specs.Legs.{leg_in_range}
use Rattle.network.specs.Refusals.{number_of, place_of}
use Rattle.network.specs.Walks.{no_leg}
use Rattle.worksheet.specs.declared.records.Query.{Query}
use Rattle.worksheet.specs.Problem.{Setting}
use Rattle.search.specs.Calls.{limit_fits, ends_fit, tables_fit, is_reached, leg_lawful}

-- Leg j is the first that does not pass.
pub record FirstFailure (passes : Leg → Bool) (legs : List Leg) (j : ℕ) : Type 0 where
  pub is_leg : j < length legs
  pub fails : passes (slice_index_or legs j no_leg) ≡ false
  pub earlier_pass : (i : ℕ) → i < j → passes (slice_index_or legs i no_leg) ≡ true

-- The number applies to an open for q, and carries the place.
pub data Applies (s : Setting) (q : Query) : ℕ → Option Place → Type 0 where
  -- The limit, the number of sites or the number of legs is outside its range, or there are more legs than the table holds.
  size : (limit_fits q && sizes_fit s.net (length s.table)) ≡ false → Applies s q 8 None
  -- A leg has a field outside its range; the first one is carried.
  leg_range : (j : ℕ) → FirstFailure (leg_in_range s.net.sites) (legs_of s.net s.table) j → Applies s q 9 (Some (place.Leg j))
  -- Start or goal is no site.
  site : ends_fit s.net q ≡ false → Applies s q 10 None
  -- Label records are none or too many, the queue has no room, or a site has no least-delay record.
  room : tables_fit s.net.sites s.labels s.records s.capacity ≡ false → Applies s q 11 None
  -- The estimate is unlawful: at the goal, or else at the leg that is carried, the first one.
  goal_estimate : is_reached (s.at q.goal) ≡ false → Applies s q 12 None
  leg_estimate : (j : ℕ) → is_reached (s.at q.goal) ≡ true → FirstFailure (leg_lawful s) (legs_of s.net s.table) j → Applies s q 12 (Some (place.Leg j))

-- The refusal's number applies, with what it carries, and none below it does.
pub record RefusedBy (s : Setting) (q : Query) (why : Refusal) : Type 0 where
  pub applies : Applies s q (number_of why) (place_of why)
  pub is_lowest : (n : ℕ) (p : Option Place) → n < number_of why → Applies s q n p → ⊥

-- No number applies.
abbrev pub NoneApplies : Setting → Query → Type 0
NoneApplies s q = (n : ℕ) (p : Option Place) → Applies s q n p → ⊥
