-- The reference figures: one small network, and what searches on it, reaches over it and a leg's delay come to, case by case.
-- Assumes nothing.
use Rattle.std.specs.Prelude.{◌≡◌, ℕ, ◌≤◌, ◌↔◌, List, [], ◌∷◌, ◌++◌, length, drop, Some, None, Ok, Err, Option, Result}
use Rattle.std.specs.List.{AllByRecursion}
use Rattle.network.specs.declared.estimates.Bound.{Bound}
use Rattle.network.specs.declared.legs.Leg.{Leg}
use Rattle.network.specs.declared.legs.Network.{Network}
use Rattle.network.specs.declared.refusals.Place.{Place}
use Rattle.network.specs.declared.refusals.Place.TheVariants as place
use Rattle.network.specs.declared.refusals.Refusal.{Refusal}
use Rattle.network.specs.declared.refusals.Stop.{Stop}
use Rattle.network.specs.Checks.{answer_by, legs_of}
use Rattle.network.specs.Estimates.{blank_at, tables_at}
use Rattle.network.specs.Legs.{leg_delay}
use Rattle.network.specs.Refusals.{number_of, place_of, stop_number_of}
use Rattle.network.specs.Tariffs.{Terms, total_fee, worst_grade}
use Rattle.network.specs.Walks.{graph}
use Rattle.worksheet.specs.declared.records.Query.{Query}
use Rattle.worksheet.specs.Problem.{Setting}
use Rattle.search.specs.declared.record.Standing.{Standing}
use Rattle.search.specs.declared.record.Standing.TheVariants as standing
use Rattle.search.specs.Record.{search_of, verdict_on}
use Rattle.search.specs.Calls.{Worksheet, Outcome, setting, opening, advancing, tracing, traced, Traced}
use Rattle.reach.specs.Reaches.{reach_refusal, Written}

-- A leg, by its tail, head, fee, grade, stated delay and medium.
abbrev pub leg : ℕ → ℕ → ℕ → ℕ → ℕ → ℕ → Leg
leg tail head fee grade stated medium = record { tail = tail; head = head; fee = fee; grade = grade; stated = stated; medium = medium }

-- Network A has four sites and five legs.
abbrev pub network_a : Network
network_a = record { sites = 4; legs = 5 }

abbrev pub legs_a : List Leg
legs_a = leg 0 1 2 3 4 0 ∷ leg 1 3 2 1 5 0 ∷ leg 0 2 4 2 1 0 ∷ leg 2 3 1 2 2 0 ∷ leg 0 3 9 1 1 0 ∷ []

-- The least total fee, the least worst grade and the least delay of all walks from each site to site 3.
abbrev pub fees_to_3 : List ℕ
fees_to_3 = 4 ∷ 2 ∷ 1 ∷ 0 ∷ []

abbrev pub grades_to_3 : List ℕ
grades_to_3 = 1 ∷ 1 ∷ 2 ∷ 0 ∷ []

abbrev pub delays_to_3 : List ℕ
delays_to_3 = 1 ∷ 5 ∷ 2 ∷ 0 ∷ []

-- How a search ends: found, with the cost, the delay and the legs of the route; none; or stopped, by a number.
pub data Ending : Type 0 where
  found : (cost delay : ℕ) (route : List ℕ) → Ending
  none : Ending
  stopped : (number : ℕ) → Ending

-- What a search comes to: its open is refused, by a number and at a leg; or it ends after so many steps, with so many labels
-- written.
pub data ResultOfSearch : Type 0 where
  refused_at_leg : (number leg : ℕ) → ResultOfSearch
  ends_after : (steps written : ℕ) (how : Ending) → ResultOfSearch

-- A search: tariff, estimate and question, how many label records there are, the queue's capacity, and what it comes to.
pub record SearchCase : Type 0 where
  pub terms : Terms
  pub at : ℕ → Option Bound
  pub query : Query
  pub labels : ℕ
  pub capacity : ℕ
  pub result : ResultOfSearch

-- A case is a search; or a reach, by its tariff and goal, with the costs and delays that it writes; or a leg, by its stated
-- delay and medium, with the delay that it takes.
pub data Case : Type 0 where
  searches : SearchCase → Case
  reaches : (terms : Terms) (goal : ℕ) (costs delays : List ℕ) → Case
  takes : (stated medium delay : ℕ) → Case

-- From site 0 to site 3 within a limit.
abbrev pub to_3_within : ℕ → Query
to_3_within limit = record { start = 0; goal = 3; limit = limit }

-- The cases, each below what it shows; 8 label records and room for 8 entries are more than any of them needs.
abbrev pub cases : List Case
cases =
    -- Limit 9, with the reach estimate: by legs 0 and 1.
    searches (record { terms = total_fee; at = tables_at fees_to_3 delays_to_3; query = to_3_within 9; labels = 8; capacity = 8; result = ends_after 3 5 (found 4 9 (0 ∷ 1 ∷ [])) })
    -- Limit 9, with the blank estimate: the same route, after a step and a label more.
    ∷ searches (record { terms = total_fee; at = blank_at; query = to_3_within 9; labels = 8; capacity = 8; result = ends_after 4 6 (found 4 9 (0 ∷ 1 ∷ [])) })
    -- Limit 8, with the reach estimate: legs 0 and 1 take 9, so the route is by legs 2 and 3.
    ∷ searches (record { terms = total_fee; at = tables_at fees_to_3 delays_to_3; query = to_3_within 8; labels = 8; capacity = 8; result = ends_after 3 4 (found 5 3 (2 ∷ 3 ∷ [])) })
    -- Limit 0, with the reach estimate: no label is written.
    ∷ searches (record { terms = total_fee; at = tables_at fees_to_3 delays_to_3; query = to_3_within 0; labels = 8; capacity = 8; result = ends_after 1 0 none })
    -- Limit 0, with the blank estimate: label 0 is written and taken first.
    ∷ searches (record { terms = total_fee; at = blank_at; query = to_3_within 0; labels = 8; capacity = 8; result = ends_after 2 1 none })
    -- Limit 0, from site 3 to itself: the route of no leg.
    ∷ searches (record { terms = total_fee; at = tables_at fees_to_3 delays_to_3; query = record { start = 3; goal = 3; limit = 0 }; labels = 8; capacity = 8; result = ends_after 1 1 (found 0 0 []) })
    -- Worst grade, limit 9, with the reach estimate: leg 4, at cost 1.
    ∷ searches (record { terms = worst_grade; at = tables_at grades_to_3 delays_to_3; query = to_3_within 9; labels = 8; capacity = 8; result = ends_after 2 4 (found 1 1 (4 ∷ [])) })
    -- Worst grade, limit 9, with the blank estimate: the same.
    ∷ searches (record { terms = worst_grade; at = blank_at; query = to_3_within 9; labels = 8; capacity = 8; result = ends_after 2 4 (found 1 1 (4 ∷ [])) })
    -- Limit 9, with the reach estimate and 4 label records: stopped by 16 at step 2.
    ∷ searches (record { terms = total_fee; at = tables_at fees_to_3 delays_to_3; query = to_3_within 9; labels = 4; capacity = 8; result = ends_after 2 4 (stopped 16) })
    -- 5 label records suffice.
    ∷ searches (record { terms = total_fee; at = tables_at fees_to_3 delays_to_3; query = to_3_within 9; labels = 5; capacity = 8; result = ends_after 3 5 (found 4 9 (0 ∷ 1 ∷ [])) })
    -- 5 label records and room for 2 entries: stopped by 17 at step 1.
    ∷ searches (record { terms = total_fee; at = tables_at fees_to_3 delays_to_3; query = to_3_within 9; labels = 5; capacity = 2; result = ends_after 1 3 (stopped 17) })
    -- Room for 3 entries suffices.
    ∷ searches (record { terms = total_fee; at = tables_at fees_to_3 delays_to_3; query = to_3_within 9; labels = 5; capacity = 3; result = ends_after 3 5 (found 4 9 (0 ∷ 1 ∷ [])) })
    -- The reach cost of site 1 set to 3: refused by 12 at leg 1.
    ∷ searches (record { terms = total_fee; at = tables_at (4 ∷ 3 ∷ 1 ∷ 0 ∷ []) delays_to_3; query = to_3_within 9; labels = 8; capacity = 8; result = refused_at_leg 12 1 })
    -- The reach cost of site 1 set to 0: refused by 12 at leg 0.
    ∷ searches (record { terms = total_fee; at = tables_at (4 ∷ 0 ∷ 1 ∷ 0 ∷ []) delays_to_3; query = to_3_within 9; labels = 8; capacity = 8; result = refused_at_leg 12 0 })
    -- A leg with a stated delay of 100 and the medium 3 takes 120.
    ∷ takes 100 3 120
    -- The tables towards site 3 under the total fee.
    ∷ reaches total_fee 3 fees_to_3 delays_to_3
    -- The tables towards site 3 under the worst grade.
    ∷ reaches worst_grade 3 grades_to_3 delays_to_3
    ∷ []

-- A call is refused by a number, at a place.
abbrev pub RefusedBy : {X : Type 0} → ℕ → Option Place → Result X Refusal → Type 0
RefusedBy number place (Ok x) = ⊥
RefusedBy number place (Err why) = (number_of why ≡ number) × (place_of why ≡ place)

-- The verdict's phase tells the ending.
abbrev pub Tells : Ending → Standing → Type 0
Tells (found cost delay route) s = s ≡ standing.Found (record { cost = cost; delay = delay })
Tells none s = s ≡ standing.Exhausted
Tells (stopped number) s = (why : Stop) × (s ≡ standing.Stopped why) × (stop_number_of why ≡ number)

-- Trace writes the route at the start of any buffer that is long enough; without a route it is refused by 14.
abbrev pub Traces : Ending → (List ℕ → Traced) → Type 0
Traces (found cost delay route) trace = (buffer : List ℕ) → length route ≤ length buffer → trace buffer ≡ traced (Ok (length route)) (route ++ drop (length route) buffer)
Traces how trace = (buffer : List ℕ) → RefusedBy 14 None (trace buffer).answer

-- An advance has ended the search in this way, with so many steps and labels.
pub record Ended (steps written : ℕ) (how : Ending) (o : Outcome (Result ℕ Refusal)) : Type 0 where
  pub steps_made : o.answer ≡ Ok steps
  pub steps_told : (verdict_on o.after).steps ≡ steps
  pub ending_told : Tells how (verdict_on o.after).standing
  pub labels_written : o.after.state.count ≡ written
  pub route_traced : Traces how (tracing network_a legs_a (search_of o.after) o.after.state.labels)

-- What comes of an open: it is refused; or it is accepted, and an advance by any allowance of at least so many steps ends the
-- search.
abbrev pub ComesTo : Setting → Outcome (Result Unit Refusal) → ResultOfSearch → Type 0
ComesTo s o (refused_at_leg number leg) = RefusedBy number (Some (place.Leg leg)) o.answer
ComesTo s o (ends_after steps written how) = (o.answer ≡ Ok tt) × ((allowance : ℕ) → steps ≤ allowance → Ended steps written how (advancing s allowance o.after))

-- The parts of a worksheet on network A that no call alters.
abbrev pub setting_of : SearchCase → Worksheet → Setting
setting_of c w = setting network_a legs_a c.terms c.at w.state.labels w.state.least c.capacity

-- A reach over network A is accepted, and makes of the tables costs₀ and delays₀ these records of the sites, followed by the
-- records beyond them: nothing else has what it promises.
pub record ReachWrites (terms : Terms) (goal : ℕ) (costs delays costs₀ delays₀ costs' delays' : List ℕ) : Type 0 where
  pub accepted : answer_by (reach_refusal network_a legs_a goal (length costs₀) (length delays₀)) ≡ Ok tt
  pub writes : Written (graph terms (legs_of network_a legs_a)) network_a.sites goal costs₀ delays₀ costs' delays'
      ↔ ((costs' ≡ costs ++ drop network_a.sites costs₀) × (delays' ≡ delays ++ drop network_a.sites delays₀))

-- A case comes out: a search on a worksheet with so many label records and a least-delay record for each site, whatever they
-- and the rest of it held before; a reach into tables with a record for each site, whatever they held; the delay of a leg,
-- whatever its other fields are.
abbrev pub ComesOut : Case → Type 0
ComesOut (searches c) =
    (w : Worksheet) → length w.state.labels ≡ c.labels → length w.state.least ≡ network_a.sites
    → ComesTo (setting_of c w) (opening (setting_of c w) c.query w) c.result
ComesOut (reaches terms goal costs delays) =
    (costs₀ delays₀ costs' delays' : List ℕ) → network_a.sites ≤ length costs₀ → network_a.sites ≤ length delays₀
    → length costs' ≡ length costs₀ → length delays' ≡ length delays₀
    → ReachWrites terms goal costs delays costs₀ delays₀ costs' delays'
ComesOut (takes stated medium delay) = (tail head fee grade : ℕ) → leg_delay (leg tail head fee grade stated medium) ≡ delay

-- Every case comes out.
abbrev pub EveryCaseComesOut : Type 0
EveryCaseComesOut = AllByRecursion ComesOut cases
