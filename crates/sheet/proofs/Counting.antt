-- The plans of a sheet, read one by one to its end. Assumes nothing.
use Rattle.std.proofs.Common.{◌≡◌, ℕ, ◌<◌, Bool, true, false, cond, is_some, List, [], ◌∷◌, length, Some, None, Ok, Err, Option, Result, sym, refl, ap, ◌∙◌, subst, arith}
use Rattle.network.specs.declared.plans.Plan.{Plan}
use Rattle.network.specs.declared.refusals.Refusal.{Refusal}
use Rattle.network.specs.declared.refusals.Refusal.TheVariants.{OutOfPlace}
use Rattle.sheet.specs.declared.reader.Reader.{Reader}
use Rattle.sheet.specs.Text.{Row}
use Rattle.sheet.specs.Words.{Kind}
use Rattle.sheet.specs.Sheets.{and_then, by_plan, next_from, one_more, past, plan_stated, row_kind}
use Rattle.sheet.specs.Calls.{moved, next_of, rows_left}
use Rattle.sheet.specs.Check.{on_plan, plans_from}
use Rattle.sheet.proofs.Loading.{rows_after}

-- a line that is known to state something is of a known kind
known : {Y : Type 0} (k : Result Kind Refusal) (f : Kind → Result Y Refusal) (y : Y) → and_then k f ≡ Ok y → (t : Kind) × (k ≡ Ok t)
known (Ok t) f y e = (t, refl)
known (Err x) f y e = cc

module _ (loaded : Bool) (n at line : ℕ) where
  abbrev stated : Row → Result Plan Refusal
  stated r = and_then (row_kind line r) (plan_stated loaded n line)

  abbrev no_line : Bool → Result (Option Plan) Refusal
  no_line b = cond b (Ok None) (Err (OutOfPlace line))

  -- where a plan was read there was a line that states it
  plan_read : (rows : List Row) (p : Plan) → Ok (Some p) ≡ (next_from loaded n at line rows).answer → (r : Row) × (rs : List Row) × (rows ≡ r ∷ rs) × (stated r ≡ Ok p)
  plan_read [] p e = at_end loaded e
    where
      at_end : {X : Type 0} (b : Bool) → Ok (Some p) ≡ no_line b → X
      at_end b e = absurd (grind arith)
  plan_read (r ∷ rs) p e = (r, rs, refl, by_answer (stated r) e)
    where
      by_answer : (o : Result Plan Refusal) → Ok (Some p) ≡ (by_plan at line (past at r) o).answer → o ≡ Ok p
      by_answer o e = grind arith

  -- where none was read there was no line, after an accepted load
  pub count_end : (plans : ℕ) (rows : List Row) → Ok None ≡ (next_from loaded n at line rows).answer → Ok plans ≡ plans_from loaded n line plans rows
  unfolding plans_from
  count_end plans [] e = at_end loaded e
    where
      at_end : (b : Bool) → Ok None ≡ no_line b → Ok plans ≡ cond b (Ok plans) (Err (OutOfPlace line))
      at_end b e = grind arith
  count_end plans (r ∷ rs) e = by_answer (stated r) e
    where
      by_answer : {X : Type 0} (o : Result Plan Refusal) → Ok None ≡ (by_plan at line (past at r) o).answer → X
      by_answer o e = absurd (grind arith)

  -- a refused line is the first refusal
  pub count_refused : (plans : ℕ) (rows : List Row) (x : Refusal) → Err x ≡ (next_from loaded n at line rows).answer → Err x ≡ plans_from loaded n line plans rows
  unfolding plans_from
  count_refused plans [] x e = at_end loaded e
    where
      at_end : (b : Bool) → Err x ≡ no_line b → Err x ≡ cond b (Ok plans) (Err (OutOfPlace line))
      at_end b e = grind arith
  count_refused plans (r ∷ rs) x e = by_answer (stated r) e
    where
      by_answer : (o : Result Plan Refusal) → Err x ≡ (by_plan at line (past at r) o).answer → Err x ≡ on_plan o (plans_from loaded n (one_more line) (one_more plans) rs)
      by_answer o e = grind arith

-- what one more plan leaves: the same count in the end, and a line less
pub record More (n plans : ℕ) (s s' : Reader) : Type 0 where
  pub same : plans_from s'.loaded n s'.line (one_more plans) (rows_left s') ≡ plans_from s.loaded n s.line plans (rows_left s)
  pub fewer : length (rows_left s') < length (rows_left s)

pub count_more : (n plans : ℕ) (s s' : Reader) (p : Plan) → Ok (Some p) ≡ (next_of n s).answer → s' ≡ moved s (next_of n s).at (next_of n s).line → More n plans s s'
unfolding plans_from
count_more n plans s s' p e m =
    let at = s.place in
    let line = s.line in
    let b = plan_read s.loaded n at line (rows_left s) p e in
    let t = known (row_kind line b.0) (plan_stated s.loaded n line) p b.3 in
    let o : next_of n s ≡ by_plan at line (past at b.0) (Ok p) = ap (next_from s.loaded n at line) b.2 ∙ ap (by_plan at line (past at b.0)) b.3 in
    let m' : s' ≡ moved s (past at b.0) (one_more line) = m ∙ ap (λ x. moved s x.at x.line) o in
    let rest : b.1 ≡ rows_left (moved s (past at b.0) (one_more line)) = rows_after line at s.sheet.now b.0 b.1 t.0 (past at b.0) b.2 t.1 refl in
    let count = ap length b.2 in
    let left = ap length rest in
    subst (More n plans s) (sym m') (record {
      same =
          ap (plans_from s.loaded n (one_more line) (one_more plans)) (sym rest)
          ∙ ap (λ x. on_plan x (plans_from s.loaded n (one_more line) (one_more plans) b.1)) (sym b.3)
          ∙ ap (plans_from s.loaded n line plans) (sym b.2);
      fewer = omega arith;
    })

-- the same by the test that the loop makes of what was read
pub some_read : (o : Option Plan) → is_some o ≡ true → (p : Plan) × (o ≡ Some p)
some_read None e = cc
some_read (Some p) e = (p, refl)

pub none_read : (o : Option Plan) → is_some o ≡ false → o ≡ None
none_read o e = grind arith
