-- A search that has ended stays as it is, so that a case is settled by a run of as many steps as it makes. Assumes nothing.
use Rattle.std.proofs.Common.{◌≡◌, ℕ, zero, suc, ◌+◌, ◌≤◌, Bool, true, false, cond, List, ◌++◌, length, drop, Some, Ok, Result, sym, ap, ◌∙◌, subst, arith}
use Rattle.std.proofs.lemmas.Bool.{cond-true, le-leb}
use Rattle.network.specs.declared.refusals.Refusal.{Refusal}
use Rattle.worksheet.specs.declared.records.Label.{Label}
use Rattle.worksheet.specs.Problem.{Setting, Problem}
use Rattle.worksheet.specs.Steps.{State, is_open, step}
use Rattle.search.specs.Calls.{Worksheet, Outcome, Run, ran, run, run_outcome, opening, problem_of, chain_laid, traced}
use Rattle.search.proofs.Runs.{run_closed}
use Rattle.figures.specs.Figures.{ResultOfSearch, refused_at_leg, ends_after, SearchCase, searches, Ended, ComesTo, setting_of, ComesOut}
use Rattle.figures.proofs.Rows.{Rows, rows}

-- a run of more steps than the search makes comes to the same
module _ (p : Problem) where
  by_phase : (more fewer here : Run) (going : Bool) → (is_open fewer.after.phase ≡ false → more ≡ fewer) → is_open (cond going fewer here).after.phase ≡ false → cond going more here ≡ cond going fewer here
  by_phase more fewer here going ih shut = grind arith

  run_on : (n k made : ℕ) (s : State) → n ≤ k → is_open (run p n made s).after.phase ≡ false → run p k made s ≡ run p n made s
  unfolding run
  run_on zero k made s le shut = run_closed p k made s shut
  run_on (suc n) zero made s le shut = absurd (omega arith)
  run_on (suc n) (suc k) made s le shut =
      by_phase (run p k (made + 1) (step p s)) (run p n (made + 1) (step p s)) (ran made s) (is_open s.phase) (run_on n k (made + 1) (step p s) (omega arith)) shut

-- what there is to compute of a search: its open, and a run of as many steps as it makes
abbrev pub Computes : Setting → Outcome (Result Unit Refusal) → ResultOfSearch → Type 0
Computes s o (refused_at_leg number leg) = ComesTo s o (refused_at_leg number leg)
Computes s o (ends_after steps written how) =
    (o.answer ≡ Ok tt)
    × (is_open o.after.state.phase ≡ true)
    × (is_open (run (problem_of s o.after) steps 0 o.after.state).after.phase ≡ false)
    × Ended steps written how (run_outcome o.after (run (problem_of s o.after) steps 0 o.after.state))

computed : (s : Setting) (o : Outcome (Result Unit Refusal)) (r : ResultOfSearch) → Computes s o r → ComesTo s o r
computed s o (refused_at_leg number leg) h = h
computed s o (ends_after steps written how) h = (
  h.0,
  λ allowance le.
      subst (Ended steps written how) (sym (cond-true _ _ _ h.1 ∙ ap (run_outcome o.after) (run_on (problem_of s o.after) steps allowance 0 o.after.state le h.2))) h.3,
)

-- the worksheet w with other label records and least-delay records
abbrev with_tables : Worksheet → List Label → List ℕ → Worksheet
with_tables w labels least = record w { state = record w.state { labels = labels; least = least } }

abbrev On : SearchCase → Worksheet → List Label → List ℕ → Type 0
On c w labels least =
    let v = with_tables w labels least in
    Computes (setting_of c v) (opening (setting_of c v) c.query v) c.result

-- the same on every worksheet, record by record
abbrev pub ComputesAnywhere : SearchCase → Type 0
ComputesAnywhere c = (w : Worksheet) → Rows c.labels (λ labels. Rows 4 (λ least. On c w labels least))

pub search_comes_out : (c : SearchCase) → ComputesAnywhere c → ComesOut (searches c)
search_comes_out c h w l m =
    computed (setting_of c w) (opening (setting_of c w) c.query w) c.result
    (rows 4 (On c w w.state.labels) (rows c.labels (λ labels. Rows 4 (On c w labels)) (h w) w.state.labels l) w.state.least m)

-- a chain stands at the start of a buffer that is long enough
pub laid : (js b : List ℕ) → length js ≤ length b → chain_laid (Some js) b ≡ traced (Ok (length js)) (js ++ drop (length js) b)
laid js b h = cond-true _ _ _ (le-leb _ _ h)
