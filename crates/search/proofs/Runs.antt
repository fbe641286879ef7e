-- The steps of a call, made one by one, come to the run of them. Assumes nothing.
use Rattle.std.proofs.Common.{◌≡◌, ℕ, zero, suc, ◌+◌, ◌-◌, ◌<◌, ◌≤◌, true, false, refl, ap, ◌∙◌, arith}
use Rattle.std.proofs.lemmas.Bool.{cond-true, cond-false}
use Rattle.worksheet.specs.Problem.{Setting, Problem}
use Rattle.worksheet.specs.Steps.{State, is_open, step}
use Rattle.search.specs.Calls.{Worksheet, problem_of, ran, run}

-- the ways of a run
module _ (p : Problem) where
  pub run_on : (k made : ℕ) (s : State) → made < k → is_open s.phase ≡ true → run p (k - made) made s ≡ run p (k - (made + 1)) (made + 1) (step p s)
  unfolding run
  run_on k made s lt going = let one : k - made ≡ suc (k - (made + 1)) = omega arith in ap (λ j. run p j made s) one ∙ cond-true _ _ _ going

  pub run_closed : (j made : ℕ) (s : State) → is_open s.phase ≡ false → run p j made s ≡ ran made s
  unfolding run
  run_closed zero made s shut = refl
  run_closed (suc j) made s shut = cond-false _ _ _ shut

  pub run_out : (k made : ℕ) (s : State) → made ≡ k → run p (k - made) made s ≡ ran made s
  unfolding run
  run_out k made s e = let none : k - made ≡ 0 = omega arith in ap (λ j. run p j made s) none

-- how far a call with an allowance of k steps has come: what is left of them gives the run, and the queue keeps its room
pub record Running (s : Setting) (k : ℕ) (w₀ w : Worksheet) (room made : ℕ) : Type 0 where
  pub same_room : room ≡ s.capacity
  pub within : made ≤ k
  pub asked : w.query ≡ w₀.query
  pub left : run (problem_of s w₀) (k - made) made w.state ≡ run (problem_of s w₀) k 0 w₀.state

-- what `advance` needs of its steps
pub ruleset step_by_step = (run_on, run_closed, run_out)
