-- What a served plan is answered, as a record with the legs of its route. Assumes nothing.
use Rattle.std.proofs.Common.{◌≡◌, ℕ, Bool, true, false, cond, nat_le, List, [], length, Ok, Err, sym, refl, ap, ◌∙◌, subst}
use Rattle.network.specs.declared.plans.Plan.{Plan}
use Rattle.network.specs.declared.refusals.Refusal.{Refusal}
use Rattle.worksheet.specs.declared.records.Mark.{Mark}
use Rattle.search.specs.declared.record.Standing.{Standing}
use Rattle.search.specs.declared.record.Standing.TheVariants.{Fresh, Open, Found, Exhausted, Stopped}
use Rattle.search.specs.declared.record.Verdict.{Verdict}
use Rattle.planner.specs.Serves.{Ground, Desk, Serves}
use Rattle.planner.specs.Fulfils.{Fulfils}
use Rattle.embed.specs.declared.serving.Answer.{Answer}
use Rattle.embed.specs.Answers.{refusal_record, standing_record, verdict_record, told_legs}
use Rattle.embed.specs.Buffers.{laid}
use Rattle.embed.specs.Requests.{Told, refused, served}

-- Where nothing is found no legs are told or counted.
none_told : (s : Standing) (js : List ℕ) → ((m : Mark) → s ≡ Found m → ⊥) → told_legs s js ≡ []
none_told Fresh js h = refl
none_told Open js h = refl
none_told (Found m) js h = absurd (h m refl)
none_told Exhausted js h = refl
none_told (Stopped why) js h = refl

none_counted : (steps n : ℕ) (s : Standing) → ((m : Mark) → s ≡ Found m → ⊥) → standing_record steps n s ≡ standing_record steps 0 s
none_counted steps n Fresh h = refl
none_counted steps n Open h = refl
none_counted steps n (Found m) h = absurd (h m refl)
none_counted steps n Exhausted h = refl
none_counted steps n (Stopped why) h = refl

-- They leave the buffer as it was.
nothing_laid : (xs : List ℕ) → laid [] xs ≡ xs
nothing_laid xs = by_room (nat_le 0 (length xs))
  where
    by_room : (b : Bool) → cond b xs xs ≡ xs
    by_room true = refl
    by_room false = refl

module _ (g : Ground) (p : Plan) (d : Desk) (before after : List ℕ) where
  -- Told by a record, with legs that are put into the buffer.
  abbrev pub ToldAndPut : Answer → Type 0
  ToldAndPut a = (legs : List ℕ) × Told g p d a legs × (after ≡ laid legs before)

  pub by_refusal : (why : Refusal) (e : Desk) → Serves g p d (Err why) e → (a : Answer) → a ≡ refusal_record why → after ≡ before → ToldAndPut a
  by_refusal why e s a is same = ([], subst (λ (x : Answer). Told g p d x []) (sym is) (refused why e s), same ∙ sym (nothing_laid before))

  module _ (v : Verdict) (e : Desk) (s : Serves g p d (Ok v) e) (kept : Fulfils g p d v e) (a : Answer) (is : a ≡ verdict_record v 0) where
    pub without_route : ((m : Mark) → v.standing ≡ Found m → ⊥) → after ≡ before → ToldAndPut a
    without_route h same =
        let record_is : verdict_record v (length kept.legs) ≡ a = none_counted v.steps (length kept.legs) v.standing h ∙ sym is in
        ([], subst (λ (x : Answer). Told g p d x []) record_is (subst (λ (js : List ℕ). Told g p d (verdict_record v (length kept.legs)) js) (none_told v.standing kept.legs h) (served v e s kept)), same ∙ sym (nothing_laid before))

    pub with_route : (m : Mark) → v.standing ≡ Found m → (route : List ℕ) → route ≡ kept.legs → (n : ℕ) → n ≡ length route → after ≡ laid route before → ToldAndPut (record a { legs = n })
    with_route m f route r n k put =
        let counted : n ≡ length kept.legs = k ∙ ap length r in
        let record_is : verdict_record v (length kept.legs) ≡ record a { legs = n } =
        ap (λ (x : Standing). standing_record v.steps (length kept.legs) x) f
        ∙ ap (λ i. standing_record v.steps i (Found m)) (sym counted)
        ∙ sym (ap (λ (x : Standing). record (standing_record v.steps 0 x) { legs = n }) f)
        ∙ sym (ap (λ (x : Answer). record x { legs = n }) is) in
        let legs_are : told_legs v.standing kept.legs ≡ route = ap (λ (x : Standing). told_legs x kept.legs) f ∙ sym r in
        (route, subst (λ (x : Answer). Told g p d x route) record_is (subst (λ (js : List ℕ). Told g p d (verdict_record v (length kept.legs)) js) legs_are (served v e s kept)), put)
