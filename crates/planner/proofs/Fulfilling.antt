-- What a served plan comes to is what it is promised. Assumes nothing.
use Rattle.std.proofs.Common.{◌≡◌, ℕ, ◌+◌, ◌-◌, ◌^◌, ◌<◌, Bool, true, false, cond, List, [], length, Some, None, Ok, Err, Option, Result, sym, refl, ap, ◌∙◌, inr, arith}
use Rattle.network.specs.declared.plans.Plan.{Plan}
use Rattle.network.specs.declared.refusals.Refusal.{Refusal}
use Rattle.network.specs.declared.refusals.Refusal.TheVariants as why
use Rattle.network.specs.declared.refusals.Stop.{Stop}
use Rattle.network.specs.Tariffs.{Lawful}
use Rattle.worksheet.specs.declared.records.Mark.{Mark}
use Rattle.worksheet.specs.declared.records.Phase.{Phase}
use Rattle.worksheet.specs.declared.records.Query.{Query}
use Rattle.worksheet.specs.Problem.{Setting, problem, asked}
use Rattle.worksheet.specs.Steps.{is_open, opened}
use Rattle.worksheet.specs.Series.{begun, Known, Full}
use Rattle.search.specs.declared.record.Standing.TheVariants.{Open, Found, Stopped}
use Rattle.search.specs.Record.{standing_of, search_of, verdict_on}
use Rattle.search.specs.Calls.{Worksheet, Outcome, outcome, CostsFit, open_refusal, open_decided, opening, Run, run, run_outcome, advancing, chain_laid, traced_in, tracing}
use Rattle.promise.specs.Promise.{Tells}
use Rattle.worksheet.proofs.Ways.{not_open}
use Rattle.worksheet.proofs.Chains.{trace_short}
use Rattle.promise.proofs.Telling.{phase_told}
use Rattle.promise.proofs.Running.{opened_begun, Ran, run_is_series}
use Rattle.promise.proofs.Promised.{opened_on, found_route}
use Rattle.promise.proofs.Underway.{Underway, RouteIs, known, tells_verdict, chain_found, full_where_stopped}
use Rattle.planner.specs.Tallies.{left_for, reduced}
use Rattle.planner.specs.Serves.{Ground, Desk, desk, searched}
use Rattle.planner.specs.Fulfils.{Fulfils}

-- The run right after an accepted open, and the worksheet after it.
abbrev pub run_on : Setting → Query → Worksheet → ℕ → Run
run_on s q w k = run (problem s q) k 0 (opened (problem s q) w.state)

abbrev pub advanced_on : Setting → Query → Worksheet → ℕ → Worksheet
advanced_on s q w k = record { query = q; state = (run_on s q w k).after }

-- An accepted open: none of its numbers applies.
module _ (s : Setting) (q : Query) (w u : Worksheet) where
  open_accepted_by : (o : Option Refusal) → open_refusal s q ≡ o → open_decided s q o w ≡ outcome (Ok tt) u → (open_refusal s q ≡ None) × (opened_on s q w ≡ u)
  open_accepted_by None e d = (e, ap (λ (x : Outcome (Result Unit Refusal)). x.after) d)
  open_accepted_by (Some r) e d = let answered = ap (λ (x : Outcome (Result Unit Refusal)). x.answer) d in cc

  pub open_is_accepted : opening s q w ≡ outcome (Ok tt) u → (open_refusal s q ≡ None) × (opened_on s q w ≡ u)
  open_is_accepted d = open_accepted_by (open_refusal s q) refl d

-- An advance right after it runs, and is never refused.
module _ (s : Setting) (q : Query) (w : Worksheet) (k : ℕ) where
  advance_by : (b : Bool) → is_open (opened_on s q w).state.phase ≡ b → cond b (run_outcome (opened_on s q w) (run_on s q w k)) (outcome (Err why.NotOpen) (opened_on s q w)) ≡ run_outcome (opened_on s q w) (run_on s q w k)
  advance_by true e = refl
  advance_by false e = absurd (not_open (opened_on s q w).state.phase e (opened_begun (problem s q) w.state).0)

  advance_runs : advancing s k (opened_on s q w) ≡ run_outcome (opened_on s q w) (run_on s q w k)
  advance_runs = advance_by (is_open (opened_on s q w).state.phase) refl

  pub advance_is_accepted : (u : Worksheet) (r : Result ℕ Refusal) → outcome r u ≡ advancing s k (opened_on s q w) → (r ≡ Ok (run_on s q w k).made) × (u ≡ advanced_on s q w k)
  advance_is_accepted u r d =
      let e = d ∙ advance_runs in
      (ap (λ (x : Outcome (Result ℕ Refusal)). x.answer) e, ap (λ (x : Outcome (Result ℕ Refusal)). x.after) e)

-- The plan p, served with reach's tables costs and delays at the desk d, by k steps at the most, as many as are left.
module _ (g : Ground) (p : Plan) (d : Desk) (costs delays : List ℕ) (lawful : Lawful g.terms) where
  abbrev place : Setting
  place = searched g costs delays d.sheet

  abbrev left : ℕ
  left = left_for d.tally p.broker

  abbrev end : Worksheet
  end = advanced_on place (asked p) d.sheet left

  module _ (accepted : open_refusal place (asked p) ≡ None) (fits : CostsFit (problem place (asked p))) (small : left < 2 ^ 64 - 1) where
    ran : Ran (problem place (asked p)) d.sheet.state [] 0 left 0 (opened (problem place (asked p)) d.sheet.state) (run_on place (asked p) d.sheet left)
    ran = run_is_series (problem place (asked p)) d.sheet.state [] left 0 0 (opened (problem place (asked p)) d.sheet.state) begun

    abbrev underway : Underway place end left
    underway = record { tables = d.sheet.state; made = 0 + ran.more; accepted = accepted; fits = fits; labels_counted = refl; series = ran.series; all_made = λ o. omega (arith, ran.all o) }

    abbrev legs : List ℕ
    legs = found_route end.state end.state.phase

    legs_are : RouteIs end legs
    legs_are i m e = ap (λ (x : Phase). found_route end.state x) e

    tells : Tells place (asked p) left legs (verdict_on end)
    tells = tells_verdict place lawful end (Some (asked p)) left (refl, underway) legs legs_are

    knows : Known (problem place (asked p)) d.sheet.state [] (0 + ran.more) end.state
    knows = known place lawful end left underway

    -- The steps are those that were made, and they come off what was left.
    counted : end.state.steps ≡ ran.more
    counted = omega (arith, knows.steps_counted, ran.within)

    come_off : left_for (reduced d.tally p.broker (run_on place (asked p) d.sheet left).made) p.broker + end.state.steps ≡ left
    come_off = omega (arith, counted, ran.counted, ran.within)

    spent : standing_of end.state.phase ≡ Open → (end.state.steps ≡ left) × (left_for (reduced d.tally p.broker (run_on place (asked p) d.sheet left).made) p.broker ≡ 0)
    spent e = let all = ran.all (phase_told Open end.state.phase e) in (omega (arith, counted, all), omega (arith, ran.counted, all))

    -- What trace makes of a buffer.
    traces : (m : Mark) → standing_of end.state.phase ≡ Found m → (b : List ℕ) → tracing g.net g.table (search_of end) end.state.labels b ≡ chain_laid (Some legs) b
    traces m e b =
        let x = phase_told (Found m) end.state.phase e in
        ap (λ (y : Phase). traced_in g.net g.table end.state.count end.state.labels y b) x.1
        ∙ ap (λ (o : Option (List ℕ)). chain_laid o b) (chain_found place lawful end (Some (asked p)) left (refl, underway) x.0 m x.1)
        ∙ ap (λ (js : List ℕ). chain_laid (Some js) b) (sym (legs_are x.0 m x.1))

    short : (m : Mark) → standing_of end.state.phase ≡ Found m → length legs < length d.sheet.state.labels
    short m e =
        let x = phase_told (Found m) end.state.phase e in
        omega (arith, ap length (legs_are x.0 m x.1), trace_short end.state.labels x.0, knows.found_is_written x.0 m x.1, knows.labels_fit, knows.table_kept)

    -- What stopped the search is full.
    full : (stop : Stop) → standing_of end.state.phase ≡ Stopped stop → Full g.capacity end.state stop
    full stop e = full_where_stopped place lawful end (Some (asked p)) left (refl, underway) stop (phase_told (Stopped stop) end.state.phase e)

    pub fulfilled : Fulfils g p d (verdict_on end) (desk costs delays end (reduced d.tally p.broker (run_on place (asked p) d.sheet left).made))
    fulfilled = record {
      legs = legs;
      found_is_cheapest = tells.found_is_cheapest;
      found_has_cost = tells.found_has_cost;
      found_has_delay = tells.found_has_delay;
      found_is_traced = traces;
      found_is_short = short;
      exhausted_means_no_route = λ e. (tells.exhausted_means_no_route (inr e)).0 e;
      open_means_all_spent = spent;
      stopped_means_full = full;
      enough_steps_close = tells.enough_steps_close;
      enough_room_never_stops = tells.enough_room_never_stops;
      enough_of_both_ends = tells.enough_of_both_ends;
      never_fresh = tells.never_fresh;
      steps_come_off = come_off;
    }
