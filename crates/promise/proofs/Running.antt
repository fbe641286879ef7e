-- An opened search is open, and what a run of steps comes to. Assumes nothing.
use Rattle.std.proofs.Common.{◌≡◌, ℕ, zero, suc, ◌+◌, ◌≤◌, Bool, true, false, cond, List, Option, refl, subst, arith}
use Rattle.network.specs.declared.estimates.Bound.{Bound}
use Rattle.worksheet.specs.declared.records.Mark.{Mark}
use Rattle.worksheet.specs.declared.records.Phase.TheVariants as phase
use Rattle.worksheet.specs.Problem.{Problem}
use Rattle.worksheet.specs.Steps.{State, is_open, step, opened, open_at}
use Rattle.worksheet.specs.Series.{Series, stepped}
use Rattle.search.specs.Calls.{Run, ran, run}
use Rattle.worksheet.proofs.Ways.{open_told, not_open}

-- Whether or not label 0 is written, the search is open and has made no step.
module _ (p : Problem) (w : State) where
  abbrev Begun : State → Type 0
  Begun s = (s.phase ≡ phase.Open) × (s.steps ≡ 0)

  at_begun : (o : Option Bound) → Begun (open_at p w o)
  at_begun o = (grind arith, grind arith)

  pub opened_begun : Begun (opened p w)
  opened_begun = at_begun (p.at p.start)

-- A run from the state s after k steps, c of them its own already, made `more` of n allowed steps: all if it is still open. If
-- it made none, it left s.
pub record Ran (p : Problem) (w : State) (os : List Mark) (k n c : ℕ) (s : State) (r : Run) : Type 0 where
  pub more : ℕ
  pub series : Series p w os (k + more) r.after
  pub counted : r.made ≡ c + more
  pub within : more ≤ n
  pub all : r.after.phase ≡ phase.Open → more ≡ n
  pub idle : more ≡ 0 → r.after ≡ s

module _ (p : Problem) (w : State) (os : List Mark) where
  -- Nothing was made.
  none_ran : (n k c : ℕ) (s : State) → Series p w os k s → (s.phase ≡ phase.Open → 0 ≡ n) → Ran p w os k n c s (ran c s)
  none_ran n k c s r shut = record { more = 0; series = subst (λ i. Series p w os i s) (omega arith) r; counted = omega arith; within = omega arith; all = shut; idle = λ _. refl }

  -- One step more, before the others.
  one_ran : (n k c : ℕ) (s : State) (r : Run) → Ran p w os (suc k) n (c + 1) (step p s) r → Ran p w os k (suc n) c s r
  one_ran n k c s r x = record { more = suc x.more; series = subst (λ i. Series p w os i r.after) (omega arith) x.series; counted = omega (arith, x.counted); within = omega (arith, x.within); all = λ o. omega (arith, x.all o); idle = λ e. absurd (omega (arith, e)) }

  run_by : (n k c : ℕ) (s : State) → Series p w os k s → (b : Bool) → is_open s.phase ≡ b → (s.phase ≡ phase.Open → Ran p w os (suc k) n (c + 1) (step p s) (run p n (c + 1) (step p s))) → Ran p w os k (suc n) c s (cond b (run p n (c + 1) (step p s)) (ran c s))
  run_by n k c s r true e x = one_ran n k c s (run p n (c + 1) (step p s)) (x (open_told s.phase e))
  run_by n k c s r false e x = none_ran (suc n) k c s r (λ o. absurd (not_open s.phase e o))

  pub run_is_series : (n k c : ℕ) (s : State) → Series p w os k s → Ran p w os k n c s (run p n c s)
  unfolding run
  run_is_series zero k c s r = none_ran 0 k c s r (λ _. refl)
  run_is_series (suc n) k c s r = run_by n k c s r (is_open s.phase) refl (λ o. run_is_series n (suc k) (c + 1) (step p s) (stepped r o))
