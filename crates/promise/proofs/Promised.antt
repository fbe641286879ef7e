-- Every history of calls keeps the promise, and stops no search while there is room. Assumes nothing.
use Rattle.std.proofs.Common.{◌≡◌, ℕ, suc, ◌+◌, ◌<◌, ◌≤◌, Bool, true, cond, eqb, List, [], ◌∷◌, length, Some, None, Ok, Option, sym, refl, ap, ◌∙◌, subst, ap₂, arith}
use Rattle.std.proofs.lemmas.Bool.{cond-true, cond-false, eq-eqb, ne_eqb}
use Rattle.network.specs.declared.refusals.Refusal.TheVariants.{NotOpen, NotFound, BufferShort}
use Rattle.network.specs.Tariffs.{Lawful}
use Rattle.worksheet.specs.declared.records.Mark.{Mark}
use Rattle.worksheet.specs.declared.records.Phase.{Phase}
use Rattle.worksheet.specs.declared.records.Phase.TheVariants as phase
use Rattle.worksheet.specs.declared.records.Query.{Query}
use Rattle.worksheet.specs.Problem.{Setting, problem}
use Rattle.worksheet.specs.Steps.{State, opened}
use Rattle.worksheet.specs.Traces.{trace}
use Rattle.worksheet.specs.Series.{begun}
use Rattle.search.specs.declared.record.Standing.{Standing}
use Rattle.search.specs.declared.record.Standing.TheVariants.{Open, Found}
use Rattle.search.specs.declared.record.Verdict.{Verdict}
use Rattle.search.specs.Record.{standing_of, verdict_on}
use Rattle.search.specs.Calls.{CostsFit, Worksheet, problem_of, open_refusal}
use Rattle.search.proofs.Numbering.{refused_by_number, accepted_by_number}
use Rattle.promise.specs.declared.calls.Answer.{Answer}
use Rattle.promise.specs.declared.calls.Answer.TheVariants as answer
use Rattle.promise.specs.declared.calls.Call.{Call}
use Rattle.promise.specs.declared.calls.Call.TheVariants as call
use Rattle.promise.specs.declared.calls.Event.{Event}
use Rattle.promise.specs.History.{is_accepted, verdict_after, question_by, question, allowed_by, allowed, searches_by, searches}
use Rattle.promise.specs.Promise.{HasFound, Answered, TellsOf, Kept, AllKept}
use Rattle.promise.specs.Promise as promise
use Rattle.promise.specs.Conduct.{Made, Conducted, begins, continues, CallsKeepThePromise, StopsAreDeserved}
use Rattle.promise.proofs.Telling.{phase_told}
use Rattle.promise.proofs.Running.{opened_begun, Ran, run_is_series}
use Rattle.promise.proofs.Ways.{run_of, NoneFound, Way, open_refused, opened_anew, advance_refused, advanced, told, none_found, led_outside, too_short, traced_whole, way}
use Rattle.promise.proofs.Underway.{Underway, ComesTo, RouteIs, made_fresh, fresh_verdict, known, tells_verdict, chain_found, labels_kept, full_where_stopped}

-- The event that a call leaves.
abbrev event : Call → Answer → Worksheet → Event
event c x u = record { call = c; answer = x; after = verdict_on u }

-- The worksheet after an accepted open, and after an advance.
abbrev pub opened_on : Setting → Query → Worksheet → Worksheet
opened_on s q w = record { query = q; state = opened (problem s q) w.state }

abbrev advanced_on : Setting → ℕ → Worksheet → Worksheet
advanced_on s k w = record { query = w.query; state = (run_of s w k).after }

-- Two phases are not one.
open_not_fresh : (q : Phase) → q ≡ phase.Fresh → q ≡ phase.Open → ⊥
open_not_fresh q e f = cc

open_not_found : (q : Phase) (i : ℕ) (m : Mark) → q ≡ phase.Open → q ≡ phase.Found i m → ⊥
open_not_found q i m e f = cc

-- Searches are numbered upward.
searches_rise : (c : Call) (b : Bool) (n : ℕ) → n ≤ searches_by c b n
searches_rise (call.Open q) true n = omega arith
searches_rise c b n = omega arith

-- What is kept with some routes is kept with others that are the same up to the last search.
same_routes : (s : Setting) (route other : ℕ → List ℕ) (h : List Event) → ((i : ℕ) → i ≤ searches h → route i ≡ other i) → AllKept s route h → AllKept s other h
same_routes s route other [] same kept = tt
same_routes s route other (e ∷ before) same kept =
    let rise = searches_rise e.call (is_accepted e.answer) (searches before) in (
      record {
        answer_is_due = subst (λ (js : List ℕ). Answered s js (verdict_after before) e.call e.answer e.after) (same (searches before) rise) kept.0.answer_is_due;
        verdict_is_true = subst (λ (js : List ℕ). TellsOf s (question (e ∷ before)) (allowed (e ∷ before)) js e.after) (same (searches (e ∷ before)) (omega arith)) kept.0.verdict_is_true;
      },
      same_routes s route other before (λ i b. same i (omega (arith, rise))) kept.1,
    )

-- The walk of what is found, and no leg where nothing is.
abbrev pub found_route : State → Phase → List ℕ
found_route t (phase.Found i m) = trace t.labels i
found_route t q = []

abbrev route_on : Worksheet → List ℕ
route_on w = found_route w.state w.state.phase

route_on_is : (w : Worksheet) → RouteIs w (route_on w)
route_on_is w i m e = ap (λ (q : Phase). found_route w.state q) e

module _ (s : Setting) (lawful : Lawful s.terms) (w₀ : Worksheet) (made₀ : Made s w₀) where
  -- After an accepted open: a search of its own.
  open_comes_to : (w : Worksheet) (q : Query) (o : Option Query) (n : ℕ) → open_refusal s q ≡ None → CostsFit (problem s q) → ComesTo s w o n → ComesTo s (opened_on s q w) (Some q) 0
  open_comes_to w q o n e fits v = (
    refl,
    record { tables = w.state; made = 0; accepted = e; fits = fits; labels_counted = labels_kept s lawful w o n v; series = begun; all_made = λ _. omega arith },
  )

  -- After an advance: the same search, by some steps more.
  ran_on : (w : Worksheet) (k : ℕ) (n : ℕ) (on : Underway s w n) → Ran (problem_of s w) on.tables [] on.made k 0 w.state (run_of s w k)
  ran_on w k n on = run_is_series (problem_of s w) on.tables [] k on.made 0 w.state on.series

  abbrev advance_underway : (w : Worksheet) (k : ℕ) (n : ℕ) → w.state.phase ≡ phase.Open → Underway s w n → Underway s (advanced_on s k w) (n + k)
  advance_underway w k n e on =
      let r = ran_on w k n on in
      record { tables = on.tables; made = on.made + r.more; accepted = on.accepted; fits = on.fits; labels_counted = on.labels_counted; series = r.series; all_made = λ o. omega (arith, on.all_made e, r.all o) }

  advance_comes_to : (w : Worksheet) (k : ℕ) (o : Option Query) (n : ℕ) → w.state.phase ≡ phase.Open → ComesTo s w o n → ComesTo s (advanced_on s k w) o (n + k)
  advance_comes_to w k None n e v = absurd (open_not_fresh w.state.phase (made_fresh s w v) e)
  advance_comes_to w k (Some q) n e v = (v.0, advance_underway w k n e v.1)

  call_comes_to : (w : Worksheet) (o : Option Query) (n : ℕ) → ComesTo s w o n → (c : Call) (x : Answer) (u : Worksheet) → Way s w c x u
      → ComesTo s u (question_by c (is_accepted x) o) (allowed_by c (is_accepted x) n)
  call_comes_to w o n v c x u (opened_anew q e fits) = open_comes_to w q o n e fits v
  call_comes_to w o n v c x u (advanced k e) = advance_comes_to w k o n e v
  call_comes_to w o n v c x u d = v

  verdict_is : (w : Worksheet) (h : List Event) → Conducted s w₀ w h → verdict_after h ≡ verdict_on w
  verdict_is w h begins = sym (fresh_verdict s w₀ made₀)
  verdict_is w h (continues cd c x u d) = refl

  history_comes_to : (w : Worksheet) (h : List Event) → Conducted s w₀ w h → ComesTo s w (question h) (allowed h)
  history_comes_to w h begins = made₀
  history_comes_to w h (continues {w = v} {h = before} cd c x u d) = call_comes_to v (question before) (allowed before) (history_comes_to v before cd) c x u (way s v c x u d)

  -- The answer to an advance, by the steps that the two states have counted.
  advance_answered : (w : Worksheet) (k : ℕ) (o : Option Query) (n : ℕ) → w.state.phase ≡ phase.Open → ComesTo s w o n → (js : List ℕ)
      → Answered s js (verdict_on w) (call.Advance k) (answer.Advanced (Ok (run_of s w k).made)) (verdict_on (advanced_on s k w))
  advance_answered w k None n e v js = absurd (open_not_fresh w.state.phase (made_fresh s w v) e)
  advance_answered w k (Some q) n e v js =
      let on = v.1 in
      let r = ran_on w k n on in
      let before = (known s lawful w n on).steps_counted in
      let after = (known s lawful (advanced_on s k w) (n + k) (advance_underway w k n e on)).steps_counted in
      promise.advanced k (run_of s w k).made (verdict_on (advanced_on s k w)) (ap standing_of e)
      (omega (arith, r.counted, r.within)) (λ f. omega (arith, r.counted, r.all (phase_told Open (run_of s w k).after.phase f)))
      (λ z. ap (λ (t : State). verdict_on (record { query = w.query; state = t })) (r.idle (omega (arith, z, r.counted)))) (omega (arith, before, after, r.counted))

  opened_verdict : (w : Worksheet) (q : Query) → record { standing = Open; steps = 0 } ≡ verdict_on (opened_on s q w)
  opened_verdict w q =
      let b = opened_begun (problem s q) w.state in
      ap₂ (λ (x : Standing) (n : ℕ). record { standing = x; steps = n }) (ap standing_of (sym b.0)) (sym b.1)

  not_told_found : (w : Worksheet) → NoneFound w → HasFound (verdict_on w) → ⊥
  not_told_found w e f = let x = phase_told (Found f.0) w.state.phase f.1 in e x.0 f.0 x.1

  -- Each way is one of the promised answers, and a chain that leads outside is none.
  call_answered : (w : Worksheet) (o : Option Query) (n : ℕ) → ComesTo s w o n → (js : List ℕ) → RouteIs w js → (c : Call) (x : Answer) (u : Worksheet) → Way s w c x u → Answered s js (verdict_on w) c x (verdict_on u)
  call_answered w o n v js is c x u (open_refused q r e) = promise.open_refused q r (refused_by_number s q r e)
  call_answered w o n v js is c x u (opened_anew q e fits) = subst (λ (y : Verdict). Answered s js (verdict_on w) (call.Open q) (answer.Opened (Ok tt)) y) (opened_verdict w q) (promise.opened q (accepted_by_number s q e))
  call_answered w o n v js is c x u (advance_refused k e) = promise.advance_refused k NotOpen refl (λ f. e (phase_told Open w.state.phase f))
  call_answered w o n v js is c x u (advanced k e) = advance_answered w k o n e v js
  call_answered w o n v js is c x u told = promise.told
  call_answered w o n v js is c x u (none_found k e) = promise.trace_refused k NotFound refl (not_told_found w e)
  call_answered w o n v js is c x u (led_outside k i m e f) = let g = chain_found s lawful w o n v i m e in cc
  call_answered w o n v js is c x u (too_short k i m ks e f h) =
      let g = chain_found s lawful w o n v i m e in
      let same : js ≡ ks = let j = is i m e in cc in
      promise.buffer_refused k BufferShort refl (m, ap standing_of e) (subst (λ (y : List ℕ). k < length y) (sym same) h)
  call_answered w o n v js is c x u (traced_whole k i m ks legs e f h l) =
      let g = chain_found s lawful w o n v i m e in
      let same : js ≡ ks = let j = is i m e in cc in
      promise.traced k legs (m, ap standing_of e) (subst (λ (y : List ℕ). length y ≤ k) (sym same) h) (l ∙ sym same)

  -- There are routes with which the history keeps the promise, the last of them js.
  abbrev Routes : List Event → List ℕ → Type 0
  Routes h js = (route : ℕ → List ℕ) × (route (searches h) ≡ js) × AllKept s route h

  -- One call more, by routes that give ks before it and js after it.
  kept_more : (w : Worksheet) (h : List Event) → Conducted s w₀ w h → (ks : List ℕ) → RouteIs w ks → (c : Call) (x : Answer) (u : Worksheet) → Way s w c x u → (js : List ℕ) → RouteIs u js
      → (route : ℕ → List ℕ) → route (searches h) ≡ ks → route (searches_by c (is_accepted x) (searches h)) ≡ js → Kept s route h (event c x u)
  kept_more w h cd ks was c x u d js is route old new =
      let v = history_comes_to w h cd in
      record {
        answer_is_due = subst (λ (y : List ℕ). Answered s y (verdict_after h) c x (verdict_on u)) (sym old)
            (subst (λ (y : Verdict). Answered s ks y c x (verdict_on u)) (sym (verdict_is w h cd)) (call_answered w (question h) (allowed h) v ks was c x u d));
        verdict_is_true = subst (λ (y : List ℕ). TellsOf s (question (event c x u ∷ h)) (allowed (event c x u ∷ h)) y (verdict_on u)) (sym new)
            (tells_verdict s lawful u (question (event c x u ∷ h)) (allowed (event c x u ∷ h)) (call_comes_to w (question h) (allowed h) v c x u d) js is);
      }

  -- A call that begins no search leaves the routes; one that does adds a route.
  same_search : (w : Worksheet) (h : List Event) → Conducted s w₀ w h → (js : List ℕ) → RouteIs w js → Routes h js → (c : Call) (x : Answer) (u : Worksheet) → Way s w c x u → RouteIs u js → searches_by c (is_accepted x) (searches h) ≡ searches h → Routes (event c x u ∷ h) js
  same_search w h cd js was r c x u d is n =
      let now = ap r.0 n ∙ r.1 in
      (r.0, now, (kept_more w h cd js was c x u d js is r.0 r.1 now, r.2))

  next_search : (w : Worksheet) (h : List Event) → Conducted s w₀ w h → Routes h (route_on w) → (c : Call) (x : Answer) (u : Worksheet) → Way s w c x u → (js : List ℕ) → RouteIs u js → searches_by c (is_accepted x) (searches h) ≡ suc (searches h) → Routes (event c x u ∷ h) js
  next_search w h cd r c x u d js is n =
      let last = suc (searches h) in
      let route : ℕ → List ℕ = λ i. cond (eqb i last) js (r.0 i) in
      let old : (i : ℕ) → i ≤ searches h → r.0 i ≡ route i = λ i b. sym (cond-false (eqb i last) js (r.0 i) (ne_eqb i last (λ z. omega (arith, b, z)))) in
      let new : route (searches_by c (is_accepted x) (searches h)) ≡ js = ap route n ∙ cond-true (eqb last last) js (r.0 last) (eq-eqb _ _ refl) in
      (route, new, (kept_more w h cd (route_on w) (route_on_is w) c x u d js is route (sym (old (searches h) (omega arith)) ∙ r.1) new, same_routes s r.0 route h old r.2))

  call_routes : (w : Worksheet) (h : List Event) → Conducted s w₀ w h → ((js : List ℕ) → RouteIs w js → Routes h js) → (c : Call) (x : Answer) (u : Worksheet) → Way s w c x u → (js : List ℕ) → RouteIs u js → Routes (event c x u ∷ h) js
  call_routes w h cd before c x u (opened_anew q e fits) js is = next_search w h cd (before (route_on w) (route_on_is w)) c x u (opened_anew q e fits) js is refl
  call_routes w h cd before c x u (advanced k e) js is =
      let was : RouteIs w js = λ i m f. absurd (open_not_found w.state.phase i m e f) in
      same_search w h cd js was (before js was) c x u (advanced k e) is refl
  call_routes w h cd before c x u d js is = same_search w h cd js is (before js is) c x u d is refl

  routes : (w : Worksheet) (h : List Event) → Conducted s w₀ w h → (js : List ℕ) → RouteIs w js → Routes h js
  routes w h begins js is = (λ _. js, refl, tt)
  routes w h (continues {w = v} {h = before} cd c x u d) js is = call_routes v before cd (λ ks was. routes v before cd ks was) c x u (way s v c x u d) js is

pub calls_keep_the_promise : CallsKeepThePromise
calls_keep_the_promise s lawful w₀ made w h cd = let r = routes s lawful w₀ made w h cd (route_on w) (route_on_is w) in (r.0, r.2)

pub stops_are_deserved : StopsAreDeserved
stops_are_deserved s lawful w₀ made w h cd = full_where_stopped s lawful w (question h) (allowed h) (history_comes_to s lawful w₀ made w h cd)
