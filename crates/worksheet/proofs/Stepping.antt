-- Each step of an open search keeps what an accepted open sets up. Assumes nothing.
use Rattle.std.proofs.Common.{◌≡◌, ℕ, suc, ◌+◌, ◌<◌, ◌≤◌, true, false, eqb, ltb, leb, ◌⊎◌, List, [], ◌∷◌, length, get_or, set, sym, refl, ap, ◌∙◌, subst, inl, inr, ⊎_elim, arith, get_or-set_other, get_or-set_same}
use Rattle.std.specs.List.{ContainsAt as Has, list_all}
use Rattle.std.proofs.lemmas.Bool.{and_from, cond_both, both_ways, cases_eq, lt-ltb, le-leb, leb-true, leb-false}
use Rattle.std.proofs.lemmas.Bool.Decides.{nat_tests}
use Rattle.network.specs.declared.legs.Leg.{Leg}
use Rattle.network.specs.Legs.{leg_in_range}
use Rattle.network.specs.Tariffs.{Terms}
use Rattle.network.specs.Walks.{leg_at}
use Rattle.network.proofs.Ranges.{ranges}
use Rattle.queue.specs.declared.entry.Entry.{Entry}
use Rattle.worksheet.specs.declared.records.Label.{Label}
use Rattle.worksheet.specs.declared.records.Mark.{Mark}
use Rattle.worksheet.specs.declared.records.Phase.{Phase}
use Rattle.worksheet.specs.declared.records.Phase.TheVariants.{Open, Found, Exhausted}
use Rattle.worksheet.specs.Problem.{Problem}
use Rattle.worksheet.specs.Steps.{State, in_phase, with_bag, dominated, expand, settle, leads_inside, leg_inside, inside}
use Rattle.worksheet.specs.Traces.{trace}
use Rattle.worksheet.specs.Series.{Accepted, RouteOf, walk_mark, Covers, Offered, NoLater, NextOffer, enough_of}
use Rattle.worksheet.proofs.Members.{has_none, each_cons}
use Rattle.worksheet.proofs.Marks.{covers_itself, covers_both, finish_nothing}
use Rattle.worksheet.proofs.Ways.{label_of, Stepped, none_left, led_outside, dropped, arrived, expanded}
use Rattle.worksheet.proofs.Growing.{weight, record_is_there, weight_falls, expand_grew, GoesOnOrFull, expand_goes_on}
use Rattle.worksheet.proofs.Chains.{LegsFrom, all_legs, trace_leads, expand_chained}
use Rattle.worksheet.proofs.Covering.{Sound, Reached, ahead}
use Rattle.worksheet.proofs.Covering as reached
use Rattle.worksheet.proofs.Taking.{Progress, settled_of, Arrived, route_is_reached, first_sound, first_is_next, dropped_progress, arrived_progress, expanded_progress}
use Rattle.worksheet.proofs.Invariants.{offered_more, offered_by, Going, Standing, StandingIn, Invariant}

-- Where all legs are in range, none of them leads outside.
legs_are_inside : (p : Problem) → ((j : ℕ) → j < length p.graph.legs → leg_in_range p.sites (leg_at p.graph j) ≡ true) → p.sites ≤ p.records → (u j : ℕ) (legs : List Leg) → LegsFrom p.graph j legs → list_all (leg_inside p.records u) legs ≡ true
legs_are_inside p in_range le u j [] q = refl
legs_are_inside p in_range le u j (leg ∷ more) q =
    let r = ranges p.sites leg (rw q.1 (in_range j q.0)) in
    and_from (leg_inside p.records u leg) (list_all (leg_inside p.records u) more)
    (cond_both (eqb leg.tail u) (leads_inside p.records leg) true (λ x. x ≡ true)
    (λ _. and_from (ltb leg.head p.records) (leb leg.medium 7) (lt-ltb _ _ (omega (arith, r.head))) (le-leb _ _ r.medium)) (λ _. refl))
    (legs_are_inside p in_range le u (suc j) more q.2)

-- A step of an open search.
module _ {t : Terms} {p : Problem} {w : State} (acc : Accepted t p w)
    (os : List Mark) (k : ℕ) (s : State) (inv : Invariant p os k s) (going : Going p os k s.labels s.count s.least s.bag) (o : s.phase ≡ Open) where
  -- Each label settled at the goal is covered by an offer, and so is what it covers.
  arrived_offered : (f : Mark) → Arrived p going.done f → Offered os f
  arrived_offered f a = offered_more os a.by.mark f a.covers (going.listed a.by a.at a.site)

  -- Without an entry, each route is covered by a label settled at the goal.
  none_left_offered : s.bag ≡ [] → (f : Mark) → Reached p s.labels s.bag going.done f → Offered os f
  none_left_offered q f (reached.arrived x at site c) = arrived_offered f (record { by = x; at = at; site = site; covers = c })
  none_left_offered q f (ahead e at js walk c) = absurd (has_none e (subst (λ (b : List Entry). Has b e) q at))

  none_left_invariant : s.bag ≡ [] → Invariant p os (suc k) (in_phase Exhausted s)
  none_left_invariant q = record {
    chained = inv.chained;
    fits = inv.fits;
    standing = λ js r. none_left_offered q (walk_mark p.graph js) (route_is_reached acc s.labels s.count s.least s.bag going.done going.progress js r);
  }

  -- With a first entry e, whose label is l.
  module _ (e : Entry) (es : List Entry) (q : s.bag ≡ e ∷ es) where
    abbrev l : Label
    l = label_of s e

    progress : Progress p s.labels s.count s.least (e ∷ es) going.done
    progress = subst (λ (b : List Entry). Progress p s.labels s.count s.least b going.done) q going.progress

    sound : Sound p s.labels s.count e
    sound = first_sound acc s.labels s.count s.least e es going.done progress

    one_taken : k + suc (length es) ≡ s.count
    one_taken = ap (λ (b : List Entry). k + length b) (sym q) ∙ going.taken

    -- No number that the step uses leads outside.
    is_inside : inside p.records p.whole p.graph.legs s.count s.labels e.label ≡ true
    is_inside =
        let legs = legs_are_inside p acc.legs_in_range acc.sites_have_records l.site 0 p.graph.legs (all_legs p.graph) in
        grind (arith, nat_tests, legs, sound.below, sound.place, inv.fits, acc.sites_have_records, acc.table_is_whole)

    -- Dropped, it leaves all else as it is.
    dropped_invariant : dominated s.least l.site l.mark ≡ true → Invariant p os (suc k) (with_bag es s)
    dropped_invariant r = record {
      chained = inv.chained;
      fits = inv.fits;
      standing = subst (λ (ph : Phase). Standing p os (suc k) s.labels s.count s.least es ph) (sym o) (record {
        done = going.done;
        progress = dropped_progress acc s.labels s.count s.least e es going.done progress (leb-true _ _ r);
        listed = going.listed;
        lowered = going.lowered;
        taken = omega (arith, one_taken);
        weighed = going.weighed;
      });
    }

    -- Not dominated, it is settled.
    module _ (r : dominated s.least l.site l.mark ≡ false) where
      new : l.mark.delay < get_or s.least l.site 0
      new = leb-false _ _ r

      abbrev least : List ℕ
      least = set s.least l.site l.mark.delay

      -- Its own record falls, and no other alters.
      lower : get_or least p.goal 0 ≤ get_or s.least p.goal 0
      lower =
          ⊎_elim
          (λ (at : p.goal ≡ l.site).
          omega (arith, new, ap (λ x. get_or least x 0) at, ap (λ x. get_or s.least x 0) at, get_or-set_same s.least l.site l.mark.delay 0 (record_is_there s.least l.site l.mark.delay new)))
          (λ (away : p.goal ≡ l.site → ⊥). omega (arith, get_or-set_other s.least l.site p.goal l.mark.delay 0 away))
          (cases_eq p.goal l.site)

      -- At the goal its delay is below that of every offer, so that none covers it.
      not_offered : l.site ≡ p.goal → Offered os l.mark → ⊥
      not_offered goal f = let by = offered_by os l.mark f in omega (arith, new, ap (λ x. get_or s.least x 0) goal, going.lowered by.0 by.1, by.2.1)

      abbrev next : l.site ≡ p.goal → (js : List ℕ) → RouteOf p js → Arrived p going.done (walk_mark p.graph js) ⊎ NoLater l.mark (walk_mark p.graph js)
      next goal js a = first_is_next acc s.labels s.count s.least e es going.done progress goal js a

      -- A route that covers it comes to the same: no label settled at the goal covers such a route, and so it comes after.
      undominated_by : l.site ≡ p.goal → (f : Mark) → Covers f l.mark → Arrived p going.done f ⊎ NoLater l.mark f → f ≡ l.mark
      undominated_by goal f c (inl a) = absurd (not_offered goal (offered_more os f l.mark c (arrived_offered f a)))
      undominated_by goal f c (inr (inl h)) = absurd (omega (arith, c.0))
      undominated_by goal f c (inr (inr h)) = covers_both f l.mark c (omega (arith, h.0), h.1)

      -- So its walk is the next offer.
      next_offer : l.site ≡ p.goal → NextOffer p os (trace s.labels e.label) l.mark
      next_offer goal =
          let g = p.graph in
          let js = trace s.labels e.label in
          let leads = trace_leads p s.labels s.count inv.chained p.goal e.label sound.below goal in
          let is : walk_mark g js ≡ l.mark = sym (finish_nothing g js) ∙ leads.comes_to in
          record {
            route = record { leads = leads.walk; within = omega (arith, ap (λ (m : Mark). m.delay) (is ∙ sym sound.mark), sound.within) };
            comes_to = is;
            new = not_offered goal;
            undominated = λ ks a c. undominated_by goal (walk_mark g ks) c (next goal ks a);
            next = λ ks a. ⊎_elim (λ (x : Arrived p going.done (walk_mark g ks)). inl (arrived_offered (walk_mark g ks) x)) (λ (x : NoLater l.mark (walk_mark g ks)). inr x) (next goal ks a);
          }

      arrived_invariant : l.site ≡ p.goal → Invariant p os (suc k) (in_phase (Found e.label l.mark) (settle l (with_bag es s)))
      arrived_invariant goal =
          let here : get_or least p.goal 0 ≡ l.mark.delay = ap (λ x. get_or least x 0) (sym goal) ∙ get_or-set_same s.least l.site l.mark.delay 0 (record_is_there s.least l.site l.mark.delay new) in
          record {
            chained = inv.chained;
            fits = inv.fits;
            standing = record {
              going = record {
                done = settled_of l e.estimate ∷ going.done;
                progress = arrived_progress acc s.labels s.count s.least e es going.done progress new goal;
                listed = each_cons (λ x. x.site ≡ p.goal → Offered (l.mark ∷ os) x.mark) (settled_of l e.estimate) going.done (λ _. inl (covers_itself l.mark)) (λ x at f. inr (going.listed x at f));
                lowered = each_cons (λ m. get_or least p.goal 0 ≤ m.delay) l.mark os (omega (arith, here)) (λ m at. omega (arith, lower, going.lowered m at));
                taken = omega (arith, one_taken);
                weighed = omega (arith, weight_falls s.least l.site l.mark.delay p.graph.legs new, going.weighed);
              };
              written = sound.below;
              next = next_offer goal;
            };
          }

      abbrev end : State
      end = expand p e.label l 0 p.graph.legs (settle l (with_bag es s))

      -- Expanded, it goes on, or has filled a table before there were enough labels.
      expanded_standing : (l.site ≡ p.goal → ⊥) → GoesOnOrFull p (enough_of p) end → StandingIn p os (suc k) end end.phase
      expanded_standing away (inl x) =
          let g = expand_grew p e.label l 0 p.graph.legs (settle l (with_bag es s)) in
          let at_goal : get_or end.least p.goal 0 ≤ get_or s.least p.goal 0 = omega (arith, lower, ap (λ (z : List ℕ). get_or z p.goal 0) g.least) in
          let same : weight end.least p.graph.legs ≡ weight least p.graph.legs = ap (λ (z : List ℕ). weight z p.graph.legs) g.least in
          subst (StandingIn p os (suc k) end) (sym x) (record {
            done = settled_of l e.estimate ∷ going.done;
            progress = expanded_progress acc s e es going.done progress new x;
            listed = each_cons (λ y. y.site ≡ p.goal → Offered os y.mark) (settled_of l e.estimate) going.done (λ f. absurd (away f)) going.listed;
            lowered = λ m at. omega (arith, at_goal, going.lowered m at);
            taken = omega (arith, one_taken, g.bag);
            weighed = omega (arith, g.count, weight_falls s.least l.site l.mark.delay p.graph.legs new, same, going.weighed);
          })
      expanded_standing away (inr x) =
          let g = expand_grew p e.label l 0 p.graph.legs (settle l (with_bag es s)) in
          subst (StandingIn p os (suc k) end) (sym x.is) (record { filled = x.filled; below = x.below; entries = omega (arith, one_taken, g.bag) })

      expanded_invariant : (l.site ≡ p.goal → ⊥) → Invariant p os (suc k) end
      expanded_invariant away =
          let less = weight_falls s.least l.site l.mark.delay p.graph.legs new in
          let kept = expand_chained p e.label l 0 p.graph.legs (settle l (with_bag es s)) (all_legs p.graph) (record { below = sound.below; fits = inv.fits; is = refl; chained = inv.chained }) in
          record {
            chained = kept.chained;
            fits = kept.fits;
            standing = expanded_standing away (expand_goes_on p e.label l 0 p.graph.legs (enough_of p) (settle l (with_bag es s)) (omega (arith, less, going.weighed)) (inl o));
          }

  pub step_invariant : (u : State) → Stepped p s u → Invariant p os (suc k) u
  step_invariant u (none_left q) = none_left_invariant q
  step_invariant u (led_outside e es q f) = absurd (both_ways (inside p.records p.whole p.graph.legs s.count s.labels e.label) f (is_inside e es q))
  step_invariant u (dropped e es q r) = dropped_invariant e es q r
  step_invariant u (arrived e es q r goal) = arrived_invariant e es q r goal
  step_invariant u (expanded e es q r away) = expanded_invariant e es q r away
