-- What is taken next: at the goal it is the next route; dropped, settled or expanded, it keeps the search's progress. Assumes nothing.
use Rattle.std.proofs.Common.{◌≡◌, ℕ, ◌<◌, ◌≤◌, false, ◌⊎◌, List, ◌∷◌, get_or, set, sym, ap, ◌∙◌, subst, inl, inr, ⊎_elim, le_trans, le_refl, arith, get_or-set_other, get_or-set_same}
use Rattle.std.specs.List.{ContainsAt as Has}
use Rattle.std.proofs.ByRecursion.{all-has, has_get_or}
use Rattle.std.proofs.lemmas.Bool.{cases_lt, cases_eq}
use Rattle.network.specs.declared.estimates.Bound.{Bound}
use Rattle.network.specs.Estimates.{nothing_left}
use Rattle.network.specs.Tariffs.{Terms}
use Rattle.network.specs.Walks.{no_leg, leg_at, Walk}
use Rattle.queue.specs.declared.entry.Entry.{Entry}
use Rattle.queue.specs.Order.{before}
use Rattle.queue.proofs.Bags.{has_cases, rising_first, rising_rest}
use Rattle.queue.proofs.Orders.{before_irreflexive, not_before_estimate, not_before_cost, not_before_delay}
use Rattle.worksheet.specs.declared.records.Label.{Label}
use Rattle.worksheet.specs.declared.records.Mark.{Mark}
use Rattle.worksheet.specs.declared.records.Phase.TheVariants.{Open}
use Rattle.worksheet.specs.Problem.{Problem, nothing, extend}
use Rattle.worksheet.specs.Steps.{State, label_at, with_bag, settle, expand}
use Rattle.worksheet.specs.Series.{Accepted, RouteOf, walk_mark, Covers, NoLater}
use Rattle.worksheet.proofs.Members.{has_first, has_rest, each_cons}
use Rattle.worksheet.proofs.Marks.{finish, covers_through, finish_nothing, costs, finish_more}
use Rattle.worksheet.proofs.Estimates.{same_some, Sooner, Ranked, bounded, cheaper}
use Rattle.worksheet.proofs.Ways.{label_of}
use Rattle.worksheet.proofs.Growing.{record_is_there}
use Rattle.worksheet.proofs.Chains.{all_legs}
use Rattle.worksheet.proofs.Covering.{Settled, mark_of, Sound, Handled, hopeless, covered, waiting, Closed, DueTo, Fair, Reached, arrived, ahead, handled_is_reached}
use Rattle.worksheet.proofs.Expanding.{HandledIn, handled_kept, expand_keeps, AllSooner, expand_fair, expand_handles}

-- How far a search has come that can go on: `done` has the settled labels.
pub record Progress (p : Problem) (ls : List Label) (n : ℕ) (least : List ℕ) (b : List Entry) (done : List Settled) : Type 0 where
  pub fair : Fair p ls n least b done
  pub closed : (x : Settled) → Has done x → Closed p ls n b done x
  pub begun : Handled p ls n b done p.start nothing

abbrev pub settled_of : Label → ℕ → Settled
settled_of l e = record { site = l.site; mark = l.mark; estimate = e }

-- A label settled at the goal covers f.
pub record Arrived (p : Problem) (done : List Settled) (f : Mark) : Type 0 where
  pub by : Settled
  pub at : Has done by
  pub site : by.site ≡ p.goal
  pub covers : Covers by.mark f

module _ {t : Terms} {p : Problem} {w : State} (acc : Accepted t p w) (ls : List Label) (n : ℕ) (least : List ℕ) where
  -- Every route was handled from the start on, and so is reached.
  pub route_is_reached : (b : List Entry) (done : List Settled) → Progress p ls n least b done → (js : List ℕ) → RouteOf p js → Reached p ls b done (walk_mark p.graph js)
  route_is_reached b done progress js r =
      let is = finish_nothing p.graph js in
      subst (Reached p ls b done) is
      (handled_is_reached acc ls n b done progress.closed js p.start nothing (omega arith) progress.begun r.leads (omega (arith, ap (λ (m : Mark). m.delay) is, r.within)))

  -- The first entry, whose label is l.
  module _ (e : Entry) (es : List Entry) (done : List Settled) (progress : Progress p ls n least (e ∷ es) done) where
    abbrev l : Label
    l = label_at ls e.label

    -- It is sound, and no entry comes before it.
    pub first_sound : Sound p ls n e
    first_sound = progress.fair.sound e (has_first e es)

    none_before : (y : Entry) → Has (e ∷ es) y → before y e ≡ false
    none_before = each_cons (λ y. before y e ≡ false) e es (before_irreflexive e) (λ y at. all-has (λ z. before z e ≡ false) es y (rising_first e es progress.fair.rising) at)

    -- At the goal its estimated cost is its cost, and that of an entry is at most what a walk on from it costs.
    no_later : l.site ≡ p.goal → (y : Entry) → Has (e ∷ es) y → (f : Mark) (js : List ℕ) → Walk p.graph (label_at ls y.label).site js p.goal → Covers (finish p.graph (mark_of y) js) f → NoLater (mark_of e) f
    no_later goal y at f js q c =
        let g = p.graph in
        let law = costs acc in
        let k = first_sound.ranked in
        let sound = progress.fair.sound y at in
        let b = bounded acc js (label_at ls y.label).site q (mark_of y) sound.ranked.cost_small in
        let none = same_some (p.at p.goal) k.bound nothing_left (sym (ap p.at goal) ∙ k.known) acc.estimate_is_lawful.goal_is_reached in
        let estimate : e.estimate ≡ e.cost = k.estimate ∙ ap (λ (z : Bound). g.join e.cost z.cost) none ∙ law.zero_right e.cost k.cost_small in
        let same = same_some (p.at (label_at ls y.label).site) sound.ranked.bound b.bound sound.ranked.known b.known in
        let estimate_y : y.estimate ≡ g.join y.cost b.bound.cost = sound.ranked.estimate ∙ ap (λ (z : Bound). g.join y.cost z.cost) same in
        let more = covers_through (mark_of y) (finish g (mark_of y) js) f (finish_more g law js (label_at ls y.label).site p.goal q (mark_of y) sound.ranked.cost_small) c in
        let not_before = none_before y at in
        let first = not_before_estimate e y not_before in
        let up : y.estimate ≤ f.cost = omega (arith, estimate_y, b.cost, c.0) in
        ⊎_elim (λ (h : e.cost < f.cost). inl h)
        (λ (h : f.cost ≤ e.cost).
        let same_estimate : e.estimate ≡ y.estimate = omega (arith, first) in
        let same_cost : e.cost ≡ y.cost = omega (arith, not_before_cost e y not_before same_estimate, more.0) in
        inr (omega (arith, first), omega (arith, not_before_delay e y not_before same_estimate same_cost, more.1)))
        (cases_lt e.cost f.cost)

    next_by : l.site ≡ p.goal → (f : Mark) → Reached p ls (e ∷ es) done f → Arrived p done f ⊎ NoLater (mark_of e) f
    next_by goal f (arrived x at site c) = inl (record { by = x; at = at; site = site; covers = c })
    next_by goal f (ahead y at js q c) = inr (no_later goal y at f js q c)

    -- At the goal, every route comes after it, but for those that a label settled there covers.
    pub first_is_next : l.site ≡ p.goal → (js : List ℕ) → RouteOf p js → Arrived p done (walk_mark p.graph js) ⊎ NoLater l.mark (walk_mark p.graph js)
    first_is_next goal js r =
        subst (λ (m : Mark). Arrived p done (walk_mark p.graph js) ⊎ NoLater m (walk_mark p.graph js)) first_sound.mark
        (next_by goal (walk_mark p.graph js) (route_is_reached (e ∷ es) done progress js r))

    -- Dropped: what its site's record is due to was taken sooner, so that it costs no more and covers what the entry covers.
    module _ (known : get_or least l.site 0 ≤ l.mark.delay) where
      drop_covered : (v : ℕ) (m : Mark) → l.site ≡ v → Covers (mark_of e) m → Handled p ls n es done v m
      drop_covered v m site c =
          let sound = first_sound in
          let same = ap (λ (z : Mark). z.delay) sound.mark in
          let due = progress.fair.due l.site l.mark.delay sound.place known (omega (arith, same, sound.within)) in
          let x = due.by in
          let first = subst (λ u. Ranked p u x.mark.cost x.estimate) due.site (progress.fair.ranked x due.at) in
          let cost = cheaper acc l.site x.mark.cost x.estimate e.cost e.estimate first sound.ranked (progress.fair.order x due.at e (has_first e es)) in
          covered x due.at (due.site ∙ site) (le_trans cost c.0, omega (arith, due.delay, same, c.1))

      drop_handled : (v : ℕ) (m : Mark) → Handled p ls n (e ∷ es) done v m → Handled p ls n es done v m
      drop_handled v m (hopeless k) = hopeless k
      drop_handled v m (covered x at site c) = covered x at site c
      drop_handled v m (waiting y at below site c) =
          ⊎_elim (λ (q : e ≡ y). drop_covered v m (ap (λ (z : Entry). (label_at ls z.label).site) q ∙ site) (subst (λ (z : Entry). Covers (mark_of z) m) (sym q) c))
          (λ (k : Has es y). waiting y k below site c) (has_cases e es y at)

      pub dropped_progress : Progress p ls n least es done
      dropped_progress =
          let f = progress.fair in
          record {
            fair = record {
              sound = λ y at. f.sound y (has_rest e es y at);
              rising = rising_rest e es f.rising;
              ranked = f.ranked;
              order = λ x at y k. f.order x at y (has_rest e es y k);
              due = f.due;
            };
            closed = λ x at away j b q. drop_handled (leg_at p.graph j).head (extend p.graph x.mark (leg_at p.graph j)) (progress.closed x at away j b q);
            begun = drop_handled p.start nothing progress.begun;
          }

    -- Settled: its delay is its site's record now, and what it covered it covers still.
    module _ (new : l.mark.delay < get_or least l.site 0) where
      abbrev more_done : List Settled
      more_done = settled_of l e.estimate ∷ done

      settle_handled : (v : ℕ) (m : Mark) → Handled p ls n (e ∷ es) done v m → Handled p ls n es more_done v m
      settle_handled v m (hopeless k) = hopeless k
      settle_handled v m (covered x at site c) = covered x (has_rest (settled_of l e.estimate) done x at) site c
      settle_handled v m (waiting y at below site c) =
          ⊎_elim
          (λ (q : e ≡ y). covered (settled_of l e.estimate) (has_first (settled_of l e.estimate) done) (ap (λ (z : Entry). (label_at ls z.label).site) q ∙ site)
          (subst (λ (z : Mark). Covers z m) first_sound.mark (subst (λ (z : Entry). Covers (mark_of z) m) (sym q) c)))
          (λ (k : Has es y). waiting y k below site c) (has_cases e es y at)

      settle_ranked : Ranked p l.site l.mark.cost e.estimate
      settle_ranked = subst (λ (z : Mark). Ranked p l.site z.cost e.estimate) first_sound.mark first_sound.ranked

      settle_due : (v d : ℕ) → v < p.sites → get_or (set least l.site l.mark.delay) v 0 ≤ d → d ≤ p.limit → DueTo more_done v d
      settle_due v d b h q =
          ⊎_elim
          (λ (same : v ≡ l.site).
          let is = ap (λ x. get_or (set least l.site l.mark.delay) x 0) same ∙ get_or-set_same least l.site l.mark.delay 0 (record_is_there least l.site l.mark.delay new) in
          record { by = settled_of l e.estimate; at = has_first (settled_of l e.estimate) done; site = sym same; delay = omega (arith, h, is) })
          (λ (apart : v ≡ l.site → ⊥).
          let due = progress.fair.due v d b (omega (arith, h, get_or-set_other least l.site v l.mark.delay 0 apart)) q in
          record { by = due.by; at = has_rest (settled_of l e.estimate) done due.by due.at; site = due.site; delay = due.delay })
          (cases_eq v l.site)

      -- All entries that are left come after it.
      settle_fair : Fair p ls n (set least l.site l.mark.delay) es more_done
      settle_fair =
          let f = progress.fair in
          let same = ap (λ (z : Mark). z.cost) first_sound.mark in
          record {
            sound = λ y at. f.sound y (has_rest e es y at);
            rising = rising_rest e es f.rising;
            ranked = each_cons (λ x. Ranked p x.site x.mark.cost x.estimate) (settled_of l e.estimate) done settle_ranked f.ranked;
            order = each_cons (λ x. (y : Entry) → Has es y → Sooner x.estimate x.mark.cost y.estimate y.cost) (settled_of l e.estimate) done
                (λ y at. let h = none_before y (has_rest e es y at) in (not_before_estimate e y h, λ q. omega (arith, not_before_cost e y h q, same)))
                (λ x at y k. f.order x at y (has_rest e es y k));
            due = settle_due;
          }

      settle_sooner : AllSooner e.estimate l.mark.cost more_done
      settle_sooner =
          each_cons (λ x. Sooner x.estimate x.mark.cost e.estimate l.mark.cost) (settled_of l e.estimate) done (le_refl e.estimate, λ _. le_refl l.mark.cost)
          (λ x at. subst (λ (z : Mark). Sooner x.estimate x.mark.cost e.estimate z.cost) first_sound.mark (progress.fair.order x at e (has_first e es)))

      settle_closed : (x : Settled) → Has done x → Closed p ls n es more_done x
      settle_closed x at away j b q = settle_handled (leg_at p.graph j).head (extend p.graph x.mark (leg_at p.graph j)) (progress.closed x at away j b q)

      -- At the goal nothing is left to do, and the search could go on from here.
      pub arrived_progress : l.site ≡ p.goal → Progress p ls n (set least l.site l.mark.delay) es more_done
      arrived_progress goal = record {
        fair = settle_fair;
        closed = each_cons (Closed p ls n es more_done) (settled_of l e.estimate) done (λ away. absurd (away goal)) settle_closed;
        begun = settle_handled p.start nothing progress.begun;
      }

-- Elsewhere it is expanded: if the search is still open then, each of its children was handled.
module _ {t : Terms} {p : Problem} {w : State} (acc : Accepted t p w) (s : State) (e : Entry) (es : List Entry) (done : List Settled) (progress : Progress p s.labels s.count s.least (e ∷ es) done)
    (new : (label_of s e).mark.delay < get_or s.least (label_of s e).site 0) where
  abbrev settled : State
  settled = settle (label_of s e) (with_bag es s)

  abbrev end : State
  end = expand p e.label (label_of s e) 0 p.graph.legs settled

  pub expanded_progress : end.phase ≡ Open → Progress p end.labels end.count end.least end.bag (settled_of (label_of s e) e.estimate ∷ done)
  expanded_progress o =
      let ls = s.labels in
      let n = s.count in
      let g = p.graph in
      let l = label_of s e in
      let first = settled_of l e.estimate in
      let fair = settle_fair acc ls n s.least e es done progress new in
      let ranked = settle_ranked acc ls n s.least e es done progress new in
      let soon = settle_sooner acc ls n s.least e es done progress new in
      let children = expand_handles acc e.label l e.estimate ranked (first ∷ done) soon 0 g.legs settled (all_legs g) fair o in
      let on : (v : ℕ) (m : Mark) → Handled p ls n (e ∷ es) done v m → HandledIn p end (first ∷ done) v m =
      λ v m h. handled_kept p settled end (first ∷ done) (expand_keeps p e.label l 0 g.legs settled) v m (settle_handled acc ls n s.least e es done progress new v m h) in
      record {
        fair = expand_fair acc e.label l e.estimate ranked (first ∷ done) soon 0 g.legs settled (all_legs g) fair;
        closed = each_cons (Closed p end.labels end.count end.bag (first ∷ done)) first done
            (λ away j b q. children (leg_at g j) (has_get_or g.legs j no_leg b) q)
            (λ x at away j b q. on (leg_at g j).head (extend g x.mark (leg_at g j)) (progress.closed x at away j b q));
        begun = on p.start nothing progress.begun;
      }
