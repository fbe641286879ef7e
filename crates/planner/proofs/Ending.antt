-- The ways that serving a plan ends, by what the calls of the code ensure. Assumes nothing.
use Rattle.std.proofs.Common.{◌≡◌, ℕ, ◌-◌, ◌^◌, ◌<◌, List, length, Some, None, Ok, Err, Option, Result, sym, ap, ◌∙◌, subst, arith}
use Rattle.network.specs.declared.plans.Plan.{Plan}
use Rattle.network.specs.declared.refusals.Refusal.{Refusal}
use Rattle.network.specs.Checks.{answer_by, legs_of}
use Rattle.network.proofs.Checking.{not_refused, refused_by}
use Rattle.network.specs.Estimates.{tables_at}
use Rattle.network.specs.Tariffs.{Lawful}
use Rattle.network.specs.Walks.{graph}
use Rattle.reach.specs.Reaches.{reach_refusal, Written}
use Rattle.worksheet.specs.declared.records.Query.{Query}
use Rattle.worksheet.specs.Problem.{Setting, problem, asked}
use Rattle.search.specs.declared.record.Verdict.{Verdict}
use Rattle.search.specs.Record.{verdict_on}
use Rattle.search.specs.Calls.{Worksheet, setting, Outcome, outcome, CostsFit, open_refusal, open_decided, opening, advancing}
use Rattle.promise.proofs.Promised.{opened_on}
use Rattle.planner.specs.declared.tally.Tally.{Tally}
use Rattle.planner.specs.Tallies.{left_for, reduced}
use Rattle.planner.specs.Serves.{Ground, Desk, desk, searched, Reached, Serves, reach_refused, open_refused, served}
use Rattle.planner.specs.Fulfils.{Fulfils}
use Rattle.planner.proofs.Fulfilling.{run_on, advanced_on, open_is_accepted, advance_is_accepted, fulfilled}

-- A refused open changes nothing.
refusal_keeps : (s : Setting) (q : Query) (w u : Worksheet) (why : Refusal) (o : Option Refusal) → outcome (Err why) u ≡ open_decided s q o w → u ≡ w
refusal_keeps s q w u why None e = let z = ap (λ (x : Outcome (Result Unit Refusal)). x.answer) e in cc
refusal_keeps s q w u why (Some r) e = ap (λ (x : Outcome (Result Unit Refusal)). x.after) e

module _ (g : Ground) (p : Plan) (d : Desk) where
  -- Reach is refused.
  pub ends_at_reach : (r : Result Verdict Refusal) (why : Refusal) (costs delays : List ℕ) → r ≡ Err why
      → Err why ≡ answer_by (reach_refusal g.net g.table p.goal (length d.costs) (length d.delays))
      → costs ≡ d.costs → delays ≡ d.delays → Serves g p d r (desk costs delays d.sheet d.tally)
  ends_at_reach r why costs delays e f x y =
      let same : desk costs delays d.sheet d.tally ≡ d = λ i. desk (x i) (y i) d.sheet d.tally in
      subst (λ (a : Result Verdict Refusal). Serves g p d a (desk costs delays d.sheet d.tally)) (sym e)
      (subst (λ (z : Desk). Serves g p d (Err why) z) (sym same) (reach_refused why (sym (refused_by _ why f))))

  -- Reach has written its tables.
  module _ (costs delays : List ℕ) (accepted : Ok tt ≡ answer_by (reach_refusal g.net g.table p.goal (length d.costs) (length d.delays)))
      (tables : Written (graph g.terms (legs_of g.net g.table)) g.net.sites p.goal d.costs d.delays costs delays)
      (costs_kept : length costs ≡ length d.costs) (delays_kept : length delays ≡ length d.delays) where
    abbrev place : Setting
    place = searched g costs delays d.sheet

    reached : Reached g p d costs delays
    reached = record { accepted = sym (not_refused _ accepted); tables = tables; costs_kept = costs_kept; delays_kept = delays_kept }

    -- Open is refused.
    pub ends_at_open : (q : Query) → q ≡ asked p → (r : Result Verdict Refusal) (why : Refusal) (u : Worksheet) → r ≡ Err why → outcome (Err why) u ≡ opening place q d.sheet → Serves g p d r (desk costs delays u d.tally)
    ends_at_open q is r why u e h =
        let f = h ∙ ap (λ (y : Query). opening place y d.sheet) is in
        let same = refusal_keeps place (asked p) d.sheet u why (open_refusal place (asked p)) f in
        let refused = sym (subst (λ (w : Worksheet). outcome (Err why) w ≡ opening place (asked p) d.sheet) same f) in
        subst (λ (a : Result Verdict Refusal). Serves g p d a (desk costs delays u d.tally)) (sym e)
        (subst (λ (w : Worksheet). Serves g p d (Err why) (desk costs delays w d.tally)) (sym same) (open_refused costs delays reached why refused))

    -- Open is accepted; no table and no queue alters its size.
    module _ (q : Query) (is : q ≡ asked p) (u : Worksheet) (opens_with : outcome (Ok tt) u ≡ opening place q d.sheet) (room : ℕ)
        (labels_kept : length u.state.labels ≡ length d.sheet.state.labels) (LeastKept : length u.state.least ≡ length d.sheet.state.least) (room_kept : room ≡ g.capacity) where
      opens : outcome (Ok tt) u ≡ opening place (asked p) d.sheet
      opens = opens_with ∙ ap (λ (y : Query). opening place y d.sheet) is

      abbrev place_then : Setting
      place_then = setting g.net g.table g.terms (tables_at costs delays) u.state.labels u.state.least room

      same_place : place_then ≡ place
      same_place = rw (labels_kept, LeastKept, room_kept)

      advances : (k : ℕ) (r : Result ℕ Refusal) (v : Worksheet) → outcome r v ≡ advancing place_then k u → outcome r v ≡ advancing place k (opened_on place (asked p) d.sheet)
      advances k r v e =
          let accepted = open_is_accepted place (asked p) d.sheet u (sym opens) in
          e ∙ ap (λ (s : Setting). advancing s k u) same_place ∙ ap (λ (w : Worksheet). advancing place k w) (sym accepted.1)

      module _ (k : ℕ) (all : k ≡ left_for d.tally p.broker) (made : ℕ) (v : Worksheet) (tally : Tally) (x : Verdict)
          (steps_with : outcome (Ok made) v ≡ advancing place_then k u) (taken : tally ≡ reduced d.tally p.broker made) (told : x ≡ verdict_on v) where
        steps : outcome (Ok made) v ≡ advancing place_then (left_for d.tally p.broker) u
        steps = steps_with ∙ ap (λ n. advancing place_then n u) all

        -- The plan is served.
        pub ends_served : Serves g p d (Ok x) (desk costs delays v tally)
        ends_served =
            let e = sym (steps ∙ ap (λ (s : Setting). advancing s (left_for d.tally p.broker) u) same_place) in
            subst (λ (y : Verdict). Serves g p d (Ok y) (desk costs delays v tally)) (sym told)
            (subst (λ (t : Tally). Serves g p d (Ok (verdict_on v)) (desk costs delays v t)) (sym taken) (served costs delays reached u (sym opens) made v e))

        -- What it is told is true.
        pub ends_fulfilled : Lawful g.terms → CostsFit (problem place q) → k < 2 ^ 64 - 1 → Fulfils g p d x (desk costs delays v tally)
        ends_fulfilled lawful fits small =
            let left = left_for d.tally p.broker in
            let accepted = (open_is_accepted place (asked p) d.sheet u (sym opens)).0 in
            let ran = advance_is_accepted place (asked p) d.sheet left v (Ok made) (advances left (Ok made) v steps) in
            let end = advanced_on place (asked p) d.sheet left in
            let count : made ≡ (run_on place (asked p) d.sheet left).made = let a = ran.0 in cc in
            let full = fulfilled g p d costs delays lawful accepted (subst (λ (y : Query). CostsFit (problem place y)) is fits) (omega (arith, all, small)) in
            subst (λ (y : Verdict). Fulfils g p d y (desk costs delays v tally)) (sym told)
            (subst (λ (t : Tally). Fulfils g p d (verdict_on v) (desk costs delays v t)) (sym taken)
            (subst (λ n. Fulfils g p d (verdict_on v) (desk costs delays v (reduced d.tally p.broker n))) (sym count)
            (subst (λ (w : Worksheet). Fulfils g p d (verdict_on w) (desk costs delays w (reduced d.tally p.broker (run_on place (asked p) d.sheet left).made))) (sym ran.1) full)))
