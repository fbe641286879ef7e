-- The legs that trace writes of a route that was found. Assumes nothing.
use Rattle.std.proofs.Common.{◌≡◌, ℕ, zero, suc, ◌+◌, ◌<◌, ◌≤◌, min, Bool, true, false, cond, eqb, ltb, leb, List, [], ◌∷◌, ◌++◌, length, take, drop, replicate, Some, None, Option, Ok, Err, Result, ap, ◌∙◌, sym, refl, vec_items, arith}
use Rattle.std.specs.Result.{result_unwrap_or}
use Rattle.std.proofs.lemmas.List.{take_at, length-replicate}
use Rattle.std.proofs.lemmas.Bool.{cond-true, cond-false, le-leb, ltb-true, ne_eqb}
use Rattle.std.proofs.lemmas.Option.{cond_some}
use Rattle.network.specs.declared.legs.Leg.{Leg}
use Rattle.network.specs.declared.legs.Network.{Network}
use Rattle.network.specs.declared.plans.Plan.{Plan}
use Rattle.network.specs.declared.refusals.Refusal.{Refusal}
use Rattle.worksheet.specs.declared.records.Label.{Label}
use Rattle.worksheet.specs.declared.records.Mark.{Mark}
use Rattle.worksheet.specs.declared.records.Origin.{Origin}
use Rattle.worksheet.specs.declared.records.Phase.TheVariants as phase
use Rattle.worksheet.specs.Steps.{label_at}
use Rattle.search.specs.declared.record.Standing.TheVariants.{Found}
use Rattle.search.specs.declared.record.Verdict.{Verdict}
use Rattle.search.specs.Record.{search_of}
use Rattle.search.specs.Calls.{traced, tracing, traced_in, origin_inside, origin_at, at_first, by_origin, chain_from, chain, chain_laid}
use Rattle.planner.specs.declared.desk.Desk as own
use Rattle.planner.specs.Serves.{Ground, Desk}
use Rattle.planner.specs.Desks.{legs_by, traced_legs, legs_at}
use Rattle.planner.specs.Fulfils.{Fulfils}

laid_legs : (js b : List ℕ) → length js ≤ length b → traced_legs (chain_laid (Some js) b) ≡ js
laid_legs js b h =
    ap traced_legs (cond-true (leb (length js) (length b)) (traced (Ok (length js)) (js ++ drop (length js) b)) _ (le-leb _ _ h)) ∙ take_at js (drop (length js) b) (length js) refl

-- In a buffer of as many records as there are labels, they are the route's.
pub route_is : (g : Ground) (p : Plan) (d : Desk) (v : Verdict) (e : Desk) (kept : Fulfils g p d v e) (m : Mark) → v.standing ≡ Found m → (b : List ℕ) → length d.sheet.state.labels ≤ length b
    → traced_legs (tracing g.net g.table (search_of e.sheet) e.sheet.state.labels b) ≡ kept.legs
route_is g p d v e kept m f b h = ap traced_legs (kept.found_is_traced m f b) ∙ laid_legs kept.legs b (omega (arith, kept.found_is_short m f))

-- A vector that trace wrote to, cut to what it answered, holds the legs that it traced.
pub cut_to : (answer : Result ℕ Refusal) (buffer rest : List ℕ) (n : ℕ) → length buffer ≡ n → take (result_unwrap_or answer 0) (take n (buffer ++ drop (length buffer) rest)) ≡ legs_by answer buffer
cut_to (Ok k) buffer rest n e = ap (λ xs. take k xs) (take_at buffer (drop (length buffer) rest) n (omega (arith, e)))
cut_to (Err why) buffer rest n e = refl

-- A chain has no more legs than labels stand before its last one.
module _ (m n : ℕ) (labels : List Label) where
  short_by : (fuel : ℕ) (b : Bool) (o : Option Origin) (js ks : List ℕ) → ((i : ℕ) (more : List ℕ) → chain_from m n labels fuel i more ≡ Some ks → length ks ≤ length more + fuel)
      → cond b (at_first n js) (by_origin o (λ y. chain_from m n labels fuel y.parent (y.leg ∷ js))) ≡ Some ks → length ks ≤ length js + suc fuel
  short_by fuel true o js ks ih e = let all = ap length (cond_some (ltb 0 n) js ks e).1 in omega arith
  short_by fuel false None js ks ih e = cc
  short_by fuel false (Some o) js ks ih e = let h = ih o.parent (o.leg ∷ js) e in omega arith

  short : (fuel i : ℕ) (js ks : List ℕ) → chain_from m n labels fuel i js ≡ Some ks → length ks ≤ length js + fuel
  unfolding chain_from
  short zero i js ks e = let all = ap length (cond_some (ltb 0 n) js ks e).1 in omega arith
  short (suc fuel) i js ks e = short_by fuel (eqb i 0) (origin_at m n labels i) js ks (λ j more h. short fuel j more ks h) e

  -- that one has a record
  recorded_by : (i : ℕ) (b : Bool) (go : Origin → Option (List ℕ)) (ks : List ℕ) → by_origin (cond b (origin_inside m i (label_at labels i).from) None) go ≡ Some ks → b ≡ true
  recorded_by i true go ks e = refl
  recorded_by i false go ks e = cc

  recorded : (found : ℕ) (ks : List ℕ) → chain_from m n labels found found [] ≡ Some ks → length ks ≤ min found n
  unfolding chain_from
  recorded zero ks e = let all = ap length (cond_some (ltb 0 n) [] ks e).1 in omega arith
  recorded (suc i) ks e =
      let later : suc i ≡ 0 → ⊥ = λ z. absurd (omega arith) in
      let below : suc i < n = ltb-true _ _ (recorded_by (suc i) (ltb (suc i) n) _ ks (sym (cond-false _ _ _ (ne_eqb _ _ later)) ∙ e)) in
      let few = short (suc i) (suc i) [] ks e in
      omega arith

-- So at a desk a buffer with a place for each of these has room for the legs of the route.
module _ (net : Network) (table : List Leg) (count : ℕ) (labels : List Label) (found : ℕ) (a b : List ℕ) where
  alike_by : (o : Option (List ℕ)) → chain net table count labels found ≡ o → min found (length labels) ≤ length a → min found (length labels) ≤ length b → traced_legs (chain_laid o a) ≡ traced_legs (chain_laid o b)
  alike_by None e f g = refl
  alike_by (Some js) e f g =
      let few = recorded (min net.legs (length table)) (min count (length labels)) labels found js e in
      laid_legs js a (omega arith) ∙ sym (laid_legs js b (omega arith))

zeros : (n : ℕ) → length {A = ℕ} (replicate n 0) ≡ n
zeros n = length-replicate {A = ℕ} n 0

-- a vector with that many places traces the legs that one with a place for each label does
pub legs_at_less : (net : Network) (table : List Leg) (d : own.Desk) (found : ℕ) (m : Mark) → d.search.phase ≡ phase.Found found m
    → traced_legs (tracing net table d.search (vec_items d.labels) (replicate (min found (length (vec_items d.labels))) 0)) ≡ legs_at net table d
legs_at_less net table d found m e =
    let labels = vec_items d.labels in
    let most = min found (length labels) in
    ap (λ p. traced_legs (traced_in net table d.search.count labels p (replicate most 0))) e
    ∙ alike_by net table d.search.count labels found (replicate most 0) (replicate (length labels) 0) (chain net table d.search.count labels found) refl (omega (arith, zeros most)) (omega (arith, zeros (length labels)))
    ∙ sym (ap (λ p. traced_legs (traced_in net table d.search.count labels p (replicate (length labels) 0))) e)
