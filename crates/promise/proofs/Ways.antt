-- The ways that a call can go. Assumes nothing.
use Rattle.std.proofs.Common.{◌≡◌, ℕ, ◌<◌, ◌≤◌, Bool, true, false, cond, leb, List, ◌++◌, length, take, drop, IfOk, Some, None, Ok, Err, vec_items, Option, Result, sym, refl, ap, ◌∙◌, subst, ap₂, arith, take_all}
use lib.Seq.{take-append-le}
use Rattle.std.specs.Global.{Vec}
use Rattle.std.proofs.lemmas.Bool.{leb-true, leb-false}
use Rattle.network.specs.declared.refusals.Refusal.{Refusal}
use Rattle.network.specs.declared.refusals.Refusal.TheVariants as why
use Rattle.worksheet.specs.declared.records.Mark.{Mark}
use Rattle.worksheet.specs.declared.records.Phase.{Phase}
use Rattle.worksheet.specs.declared.records.Phase.TheVariants as phase
use Rattle.worksheet.specs.declared.records.Query.{Query}
use Rattle.worksheet.specs.Problem.{Setting, problem}
use Rattle.worksheet.specs.Steps.{is_open, opened}
use Rattle.search.specs.Record.{verdict_on}
use Rattle.search.specs.Calls.{CostsFit, Worksheet, problem_of, Outcome, outcome, open_refusal, open_decided, Run, run, run_outcome, chain, Traced, traced, chain_laid, traced_in}
use Rattle.promise.specs.declared.calls.Answer.{Answer}
use Rattle.promise.specs.declared.calls.Answer.TheVariants as answer
use Rattle.promise.specs.declared.calls.Call.{Call}
use Rattle.promise.specs.declared.calls.Call.TheVariants as call
use Rattle.promise.specs.Conduct.{Gives, Does, opens, advances, tells, traces}
use Rattle.worksheet.proofs.Ways.{open_told, not_open}

-- The chain from the label that is found.
abbrev pub found_chain : Setting → Worksheet → ℕ → Option (List ℕ)
found_chain s w i = chain s.net s.table w.state.count w.state.labels i

-- The run of an advance.
abbrev pub run_of : Setting → Worksheet → ℕ → Run
run_of s w k = run (problem_of s w) k 0 w.state

-- No label is found.
abbrev pub NoneFound : Worksheet → Type 0
NoneFound w = (i : ℕ) (m : Mark) → w.state.phase ≡ phase.Found i m → ⊥

pub data Way (s : Setting) (w : Worksheet) : Call → Answer → Worksheet → Type 0 where
  open_refused : (q : Query) (r : Refusal) → open_refusal s q ≡ Some r → Way s w (call.Open q) (answer.Opened (Err r)) w
  opened_anew : (q : Query) → open_refusal s q ≡ None → CostsFit (problem s q) → Way s w (call.Open q) (answer.Opened (Ok tt)) (record { query = q; state = opened (problem s q) w.state })
  advance_refused : (k : ℕ) → (w.state.phase ≡ phase.Open → ⊥) → Way s w (call.Advance k) (answer.Advanced (Err why.NotOpen)) w
  advanced : (k : ℕ) → w.state.phase ≡ phase.Open → Way s w (call.Advance k) (answer.Advanced (Ok (run_of s w k).made)) (record { query = w.query; state = (run_of s w k).after })
  told : Way s w call.Verdict (answer.Told (verdict_on w)) w
  none_found : (n : ℕ) → NoneFound w → Way s w (call.Trace n) (answer.Traced (Err why.NotFound)) w
  led_outside : (n i : ℕ) (m : Mark) → w.state.phase ≡ phase.Found i m → found_chain s w i ≡ None → Way s w (call.Trace n) (answer.Traced (Err why.Outside)) w
  too_short : (n i : ℕ) (m : Mark) (js : List ℕ) → w.state.phase ≡ phase.Found i m → found_chain s w i ≡ Some js → n < length js → Way s w (call.Trace n) (answer.Traced (Err why.BufferShort)) w
  traced_whole : (n i : ℕ) (m : Mark) (js : List ℕ) (legs : Vec ℕ) → w.state.phase ≡ phase.Found i m → found_chain s w i ≡ Some js → length js ≤ n → vec_items legs ≡ js → Way s w (call.Trace n) (answer.Traced (Ok legs)) w

-- What an equation of outcomes tells.
module _ {X : Type 0} where
  answers_are : (x y : X) (u v : Worksheet) → outcome x u ≡ outcome y v → x ≡ y
  answers_are x y u v e = ap (λ (z : Outcome X). z.answer) e

  afters_are : (x y : X) (u v : Worksheet) → outcome x u ≡ outcome y v → u ≡ v
  afters_are x y u v e = ap (λ (z : Outcome X). z.after) e

  way_by : (s : Setting) (w : Worksheet) (c : Call) (f : X → Answer) (x y : X) (u v : Worksheet) → outcome x u ≡ outcome y v → Way s w c (f y) v → Way s w c (f x) u
  way_by s w c f x y u v e way =
      subst (λ (z : Worksheet). Way s w c (f x) z) (sym (afters_are x y u v e)) (subst (λ (z : X). Way s w c (f z) v) (sym (answers_are x y u v e)) way)

module _ (s : Setting) (w : Worksheet) where
  open_way : (q : Query) (r : Result Unit Refusal) (u : Worksheet) (o : Option Refusal) → open_refusal s q ≡ o → outcome r u ≡ open_decided s q o w → IfOk r (λ _. CostsFit (problem s q)) → Way s w (call.Open q) (answer.Opened r) u
  open_way q r u None e d fits =
      way_by s w (call.Open q) (λ x. answer.Opened x) r (Ok tt) u _ d (opened_anew q e (subst (λ (x : Result Unit Refusal). IfOk x (λ _. CostsFit (problem s q))) (answers_are r (Ok tt) u _ d) fits))
  open_way q r u (Some x) e d fits = way_by s w (call.Open q) (λ y. answer.Opened y) r (Err x) u w d (open_refused q x e)

  advance_way : (k : ℕ) (r : Result ℕ Refusal) (u : Worksheet) (b : Bool) → is_open w.state.phase ≡ b → outcome r u ≡ cond b (run_outcome w (run_of s w k)) (outcome (Err why.NotOpen) w) → Way s w (call.Advance k) (answer.Advanced r) u
  advance_way k r u true e d = way_by s w (call.Advance k) (λ x. answer.Advanced x) r (Ok (run_of s w k).made) u _ d (advanced k (open_told w.state.phase e))
  advance_way k r u false e d = way_by s w (call.Advance k) (λ x. answer.Advanced x) r (Err why.NotOpen) u w d (advance_refused k (not_open w.state.phase e))

  -- A trace into the buffer b, which then is c.
  module _ (n : ℕ) (b c : List ℕ) (size : length b ≡ n) where
    -- Refused by x, it gives x.
    refused_way : (r : Result ℕ Refusal) (x : Refusal) (a : Result (Vec ℕ) Refusal) → traced r c ≡ traced (Err x) b → Gives r c a → Way s w (call.Trace n) (answer.Traced (Err x)) w → Way s w (call.Trace n) (answer.Traced a) w
    refused_way (Ok k) x a e g way = let answered = ap (λ (t : Traced). t.answer) e in cc
    refused_way (Err y) x (Ok legs) e g way = absurd g
    refused_way (Err y) x (Err z) e g way = let answered = ap (λ (t : Traced). t.answer) e in let same : x ≡ z = cc in subst (λ (v : Refusal). Way s w (call.Trace n) (answer.Traced (Err v)) w) same way

    -- Accepted, it gives the legs js that it wrote.
    written_way : (i : ℕ) (m : Mark) (js : List ℕ) → w.state.phase ≡ phase.Found i m → found_chain s w i ≡ Some js → length js ≤ n
        → (r : Result ℕ Refusal) (a : Result (Vec ℕ) Refusal) → traced r c ≡ traced (Ok (length js)) (js ++ drop (length js) b) → Gives r c a → Way s w (call.Trace n) (answer.Traced a) w
    written_way i m js f l h (Err y) a e g = let answered = ap (λ (t : Traced). t.answer) e in cc
    written_way i m js f l h (Ok k) (Err x) e g = absurd g
    written_way i m js f l h (Ok k) (Ok legs) e g =
        let answered = ap (λ (t : Traced). t.answer) e in
        let count : k ≡ length js = cc in
        let buffer = ap (λ (t : Traced). t.buffer) e in
        let front : take (length js) (js ++ drop (length js) b) ≡ js = take-append-le (length js) js (drop (length js) b) (omega arith) ∙ take_all (length js) js (omega arith) in
        traced_whole n i m js legs f l h (g ∙ ap₂ (λ (x : ℕ) (y : List ℕ). take x y) count buffer ∙ front)

    laid_way : (i : ℕ) (m : Mark) (js : List ℕ) → w.state.phase ≡ phase.Found i m → found_chain s w i ≡ Some js → (t : Bool) → leb (length js) (length b) ≡ t
        → (r : Result ℕ Refusal) (a : Result (Vec ℕ) Refusal) → traced r c ≡ cond t (traced (Ok (length js)) (js ++ drop (length js) b)) (traced (Err why.BufferShort) b) → Gives r c a → Way s w (call.Trace n) (answer.Traced a) w
    laid_way i m js f l true h r a e g = written_way i m js f l (omega (arith, leb-true _ _ h)) r a e g
    laid_way i m js f l false h r a e g = refused_way r why.BufferShort a e g (too_short n i m js f l (omega (arith, leb-false _ _ h)))

    chain_way : (i : ℕ) (m : Mark) → w.state.phase ≡ phase.Found i m → (o : Option (List ℕ)) → found_chain s w i ≡ o → (r : Result ℕ Refusal) (a : Result (Vec ℕ) Refusal) → traced r c ≡ chain_laid o b → Gives r c a → Way s w (call.Trace n) (answer.Traced a) w
    chain_way i m f None l r a e g = refused_way r why.Outside a e g (led_outside n i m f l)
    chain_way i m f (Some js) l r a e g = laid_way i m js f l (leb (length js) (length b)) refl r a e g

    trace_way : (p : Phase) → w.state.phase ≡ p → (r : Result ℕ Refusal) (a : Result (Vec ℕ) Refusal) → traced r c ≡ traced_in s.net s.table w.state.count w.state.labels p b → Gives r c a → Way s w (call.Trace n) (answer.Traced a) w
    trace_way (phase.Found i m) f r a e g = chain_way i m f (found_chain s w i) refl r a e g
    trace_way p f r a e g = refused_way r why.NotFound a e g (none_found n (λ i m q. cc))

  pub way : (c : Call) (x : Answer) (u : Worksheet) → Does s w c x u → Way s w c x u
  way c x u (opens q r v e fits) = open_way q r v (open_refusal s q) refl e fits
  way c x u (advances k r v e) = advance_way k r v (is_open w.state.phase) refl e
  way c x u tells = told
  way c x u (traces n a t) = trace_way n t.before t.after t.size w.state.phase refl t.answer a t.writes t.gives
