-- With each plan that a reader reads, less of its sheet is left. Assumes nothing.
use Rattle.std.proofs.Common.{◌≡◌, ℕ, ◌-◌, ◌<◌, Bool, true, false, List, [], ◌∷◌, length, drop, Some, Ok, Result, refl, ap, ◌∙◌, inl, inr, arith}
use Rattle.std.proofs.lemmas.List.{drop_all}
use Rattle.std.proofs.lemmas.Bool.{cases_lt}
use Rattle.network.specs.declared.plans.Plan.{Plan}
use Rattle.network.specs.declared.refusals.Refusal.{Refusal}
use Rattle.sheet.specs.declared.reader.Reader.{Reader}
use Rattle.sheet.specs.Text.{Row, lines}
use Rattle.sheet.specs.Sheets.{and_then, by_plan, next_from, past, plan_stated, row_kind}
use Rattle.sheet.specs.Calls.{moved, next_of, rows_left}

-- where a plan was read there was a line, and the place moves on
module _ (n at line : ℕ) (p : Plan) where
  moves_by : (r : Row) (o : Result Plan Refusal) → Ok (Some p) ≡ (by_plan at line (past at r) o).answer → at < (by_plan at line (past at r) o).at
  moves_by r o e = grind arith

  moves : (loaded : Bool) (rows : List Row) → Ok (Some p) ≡ (next_from loaded n at line rows).answer → (at < (next_from loaded n at line rows).at) × (rows ≡ [] → ⊥)
  moves true [] e = cc
  moves false [] e = cc
  moves loaded (r ∷ rs) e = (moves_by r (and_then (row_kind line r) (plan_stated loaded n line)) e, λ f. omega (arith, ap length f))

-- a place with a line is inside the sheet
no_lines : lines [] ≡ []
unfolding lines
no_lines = refl

place_inside : (sheet : List ℕ) (at : ℕ) → (lines (drop at sheet) ≡ [] → ⊥) → at < length sheet
place_inside sheet at some =
    elim (cases_lt at (length sheet)) [
      | inl h ↦ h
      | inr h ↦ absurd (some (ap lines (drop_all at sheet h) ∙ no_lines))
    ]

pub less_is_left : (n : ℕ) (r r' : Reader) (p : Plan) → Ok (Some p) ≡ (next_of n r).answer → r' ≡ moved r (next_of n r).at (next_of n r).line → length r'.sheet.now - r'.place < length r.sheet.now - r.place
less_is_left n r r' p e m =
    let there = moves n r.place r.line p r.loaded (rows_left r) e in
    let inside = place_inside r.sheet.now r.place there.1 in
    let at : r'.place ≡ (next_of n r).at = ap (λ (y : Reader). y.place) m in
    let text : length r'.sheet.now ≡ length r.sheet.now = ap (λ (y : Reader). length y.sheet.now) m in
    omega (arith, there.0, inside, at, text)
