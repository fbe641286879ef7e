-- What a search has come to after the calls of a history, and that the verdict tells it. Assumes nothing.
use Rattle.std.proofs.Common.{◌≡◌, ℕ, ◌+◌, ◌≤◌, min, ◌≢◌, ◌↔◌, List, [], length, Some, None, Option, sym, refl, ap, ◌∙◌, subst, ap₂, inl, inr, arith, length-take}
use Rattle.network.specs.declared.refusals.Stop.{Stop}
use Rattle.network.specs.declared.refusals.Stop.TheVariants.{Outside, LabelsUsed, QueueFull}
use Rattle.network.specs.Checks.{legs_of}
use Rattle.network.specs.Refusals.{stop_number_of}
use Rattle.network.specs.Tariffs.{Lawful}
use Rattle.network.specs.Walks.{Cheapest}
use Rattle.worksheet.specs.declared.records.Mark.{Mark}
use Rattle.worksheet.specs.declared.records.Phase.{Phase}
use Rattle.worksheet.specs.declared.records.Phase.TheVariants as phase
use Rattle.worksheet.specs.declared.records.Query.{Query}
use Rattle.worksheet.specs.Problem.{Setting, enough}
use Rattle.worksheet.specs.Steps.{State}
use Rattle.worksheet.specs.Traces.{trace}
use Rattle.worksheet.specs.Series.{Series, Accepted, walk_mark, enough_of, Known, Ended, FirstKnown}
use Rattle.worksheet.proofs.Offers.{search_finds_all_offers, first_offer_is_cheapest}
use Rattle.search.specs.declared.record.Search.{Search}
use Rattle.search.specs.declared.record.Standing.TheVariants.{Fresh, Open, Found, Exhausted, Stopped}
use Rattle.search.specs.Record.{standing_of, verdict_of, verdict_on}
use Rattle.search.specs.Calls.{CostsFit, Worksheet, problem_of, open_refusal, chain_from}
use Rattle.promise.specs.History.{never_opened}
use Rattle.promise.specs.Promise.{HasEnded, planned, RouteFor, enough_for, HasRoom, Tells, TellsOf}
use Rattle.promise.specs.Conduct.{Made, StoppedMeansFull}
use Rattle.promise.proofs.Telling.{phase_told}
use Rattle.promise.proofs.Chaining.{chain_is_trace}
use Rattle.promise.proofs.Accepting.{all_passed, some_entry, open_accepted}
use Rattle.promise.proofs.Ways.{found_chain}

-- Opened on the tables `tables` and allowed n steps, the search on w has made `made` of them: all, while it is open.
pub record Underway (s : Setting) (w : Worksheet) (n : ℕ) : Type 0 where
  pub tables : State
  pub made : ℕ
  pub accepted : open_refusal s w.query ≡ None
  pub fits : CostsFit (problem_of s w)
  pub labels_counted : length tables.labels ≡ s.labels
  pub series : Series (problem_of s w) tables [] made w.state
  pub all_made : w.state.phase ≡ phase.Open → n ≤ made

-- By the question of the last accepted open: without one the worksheet is as it was made.
abbrev pub ComesTo : Setting → Worksheet → Option Query → ℕ → Type 0
ComesTo s w None n = Made s w
ComesTo s w (Some q) n = (w.query ≡ q) × Underway s w n

-- js is the walk of the found label, if one is found.
abbrev pub RouteIs : Worksheet → List ℕ → Type 0
RouteIs w js = (i : ℕ) (m : Mark) → w.state.phase ≡ phase.Found i m → js ≡ trace w.state.labels i

pub made_fresh : (s : Setting) (w : Worksheet) → Made s w → w.state.phase ≡ phase.Fresh
made_fresh s w made = ap (λ (r : Search). r.phase) made.search_is_fresh

pub fresh_verdict : (s : Setting) (w : Worksheet) → Made s w → verdict_on w ≡ never_opened
fresh_verdict s w made = ap verdict_of made.search_is_fresh

module _ (s : Setting) (lawful : Lawful s.terms) where
  -- While a search is under way.
  module _ (w : Worksheet) (n : ℕ) (on : Underway s w n) where
    accepted : Accepted s.terms (problem_of s w) on.tables
    accepted = open_accepted s w.query on.tables lawful on.accepted on.fits on.labels_counted

    pub known : Known (problem_of s w) on.tables [] on.made w.state
    known = search_finds_all_offers s.terms (problem_of s w) on.tables accepted [] on.made w.state on.series

    first_known : FirstKnown (problem_of s w) w.state
    first_known = first_offer_is_cheapest s.terms (problem_of s w) on.tables accepted on.made w.state on.series

    -- All legs of the network stand in its table.
    legs_stand : s.net.legs ≤ length s.table
    legs_stand = (all_passed s w.query on.accepted).network.stand

    legs_counted : length (legs_of s.net s.table) ≡ s.net.legs
    legs_counted = omega (arith, length-take s.net.legs s.table, legs_stand)

    enough_is : enough_of (problem_of s w) ≡ enough_for s w.query
    enough_is = ap (λ m. enough m w.query.limit) legs_counted

    never_by_15 : (why : Stop) → w.state.phase ≡ phase.Stopped why → stop_number_of why ≢ 15
    never_by_15 Outside e n = known.never_outside e
    never_by_15 LabelsUsed e n = omega arith
    never_by_15 QueueFull e n = omega arith

    not_by_16 : enough_for s w.query ≤ s.labels → (why : Stop) → w.state.phase ≡ phase.Stopped why → stop_number_of why ≢ 16
    not_by_16 room LabelsUsed e n = known.enough_labels (omega (arith, enough_is, room, on.labels_counted)) e
    not_by_16 room Outside e n = omega arith
    not_by_16 room QueueFull e n = omega arith

    not_by_17 : enough_for s w.query ≤ s.capacity → (why : Stop) → w.state.phase ≡ phase.Stopped why → stop_number_of why ≢ 17
    not_by_17 room QueueFull e n = known.enough_entries (omega (arith, enough_is, room)) e
    not_by_17 room Outside e n = omega arith
    not_by_17 room LabelsUsed e n = omega arith

    not_stopped : HasRoom s w.query → (why : Stop) → w.state.phase ≡ phase.Stopped why → ⊥
    not_stopped room why e = known.enough_room_never_stops (omega (arith, enough_is, room.0, on.labels_counted), omega (arith, enough_is, room.1)) why e

    -- An open search has made all steps that it was allowed, which are fewer.
    not_open : 1 + enough_for s w.query ≤ n → w.state.phase ≢ phase.Open
    not_open steps e = omega (arith, known.enough_steps_end e, on.all_made e, enough_is)

    -- In each phase.
    ended_in : HasRoom s w.query → 1 + enough_for s w.query ≤ n → (q : Phase) → w.state.phase ≡ q → HasEnded (verdict_on w)
    ended_in room steps phase.Fresh e = absurd (known.never_fresh e)
    ended_in room steps phase.Open e = absurd (not_open steps e)
    ended_in room steps (phase.Found i m) e = inl (m, ap standing_of e)
    ended_in room steps phase.Exhausted e = inr (ap standing_of e)
    ended_in room steps (phase.Stopped why) e = absurd (not_stopped room why e)

    ended_told : HasEnded (verdict_on w) → Ended w.state
    ended_told (inl f) = let x = phase_told (Found f.0) w.state.phase f.1 in inl (x.0, f.0, x.1)
    ended_told (inr e) = inr (phase_told Exhausted w.state.phase e)

    -- The found route comes to the found mark, and is the cheapest.
    comes_to : (js : List ℕ) → RouteIs w js → (m : Mark) → standing_of w.state.phase ≡ Found m → walk_mark (planned s) js ≡ m
    comes_to js is m e =
        let x = phase_told (Found m) w.state.phase e in
        ap (λ (ks : List ℕ). walk_mark (planned s) ks) (is x.0 m x.1) ∙ first_known.found_comes_to x.0 m x.1

    cheapest : (js : List ℕ) → RouteIs w js → (m : Mark) → standing_of w.state.phase ≡ Found m → Cheapest (planned s) w.query.start w.query.goal w.query.limit js
    cheapest js is m e =
        let x = phase_told (Found m) w.state.phase e in
        subst (λ (ks : List ℕ). Cheapest (planned s) w.query.start w.query.goal w.query.limit ks) (sym (is x.0 m x.1)) (first_known.found_is_cheapest x.0 m x.1)

    no_route : HasEnded (verdict_on w) → (standing_of w.state.phase ≡ Exhausted) ↔ ((ks : List ℕ) → RouteFor s w.query ks → ⊥)
    no_route ended =
        let both = first_known.exhausted_means_no_route (ended_told ended) in
        (λ e. both.0 (phase_told Exhausted w.state.phase e), λ f. ap standing_of (both.1 f))

    tells_here : (js : List ℕ) → RouteIs w js → Tells s w.query n js (verdict_on w)
    tells_here js is = record {
      found_has_cost = λ m e. ap (λ (x : Mark). x.cost) (comes_to js is m e);
      found_has_delay = λ m e. ap (λ (x : Mark). x.delay) (comes_to js is m e);
      found_is_cheapest = cheapest js is;
      exhausted_means_no_route = no_route;
      enough_steps_close = λ steps e. not_open steps (phase_told Open w.state.phase e);
      enough_labels = λ room why e. not_by_16 room why (phase_told (Stopped why) w.state.phase e);
      enough_entries = λ room why e. not_by_17 room why (phase_told (Stopped why) w.state.phase e);
      enough_room_never_stops = λ room why e. not_stopped room why (phase_told (Stopped why) w.state.phase e);
      enough_of_both_ends = λ room steps. ended_in room steps w.state.phase refl;
      never_stops_by_15 = λ why e. never_by_15 why (phase_told (Stopped why) w.state.phase e);
      never_fresh = λ e. known.never_fresh (phase_told Fresh w.state.phase e);
    }

    -- The chain of the found label leads back to label 0.
    chain_here : (i : ℕ) (m : Mark) → w.state.phase ≡ phase.Found i m → found_chain s w i ≡ Some (trace w.state.labels i)
    chain_here i m e =
        let legs : min s.net.legs (length s.table) ≡ length (legs_of s.net s.table) = omega (arith, legs_counted, legs_stand) in
        let count : min w.state.count (length w.state.labels) ≡ w.state.count = omega (arith, known.labels_fit) in
        ap₂ (λ x y. chain_from x y w.state.labels i i []) legs count
        ∙ chain_is_trace (length (legs_of s.net s.table)) w.state.count w.state.labels known.labels_linked i (known.found_is_written i m e)

  -- Before the first accepted open too.
  pub tells_verdict : (w : Worksheet) (o : Option Query) (n : ℕ) → ComesTo s w o n → (js : List ℕ) → RouteIs w js → TellsOf s o n js (verdict_on w)
  tells_verdict w None n v js is = fresh_verdict s w v
  tells_verdict w (Some q) n v js is = subst (λ (x : Query). Tells s x n js (verdict_on w)) v.0 (tells_here w n v.1 js is)

  pub chain_found : (w : Worksheet) (o : Option Query) (n : ℕ) → ComesTo s w o n → (i : ℕ) (m : Mark) → w.state.phase ≡ phase.Found i m → found_chain s w i ≡ Some (trace w.state.labels i)
  chain_found w None n v i m e = let fresh = made_fresh s w v in cc
  chain_found w (Some q) n v i m e = chain_here w n v.1 i m e

  -- No call alters how many label records there are.
  pub labels_kept : (w : Worksheet) (o : Option Query) (n : ℕ) → ComesTo s w o n → length w.state.labels ≡ s.labels
  labels_kept w None n v = v.labels_counted
  labels_kept w (Some q) n v = (known w n v.1).table_kept ∙ v.1.labels_counted

  -- A stopped search has filled a table.
  pub full_where_stopped : (w : Worksheet) (o : Option Query) (n : ℕ) → ComesTo s w o n → StoppedMeansFull s w
  full_where_stopped w None n v why e = let fresh = made_fresh s w v in cc
  full_where_stopped w (Some q) n v why e = (known w n v.1).stopped_means_full (some_entry s w.query v.1.accepted) why e
