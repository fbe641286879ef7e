-- An expansion keeps the bag fair, and handles the child by each leg. Assumes nothing.
use Rattle.std.proofs.Common.{◌≡◌, ℕ, suc, ◌+◌, ◌^◌, ◌<◌, ◌≤◌, List, [], ◌∷◌, length, get_or, set, Some, sym, refl, ap, ◌∙◌, subst, arith, get_or-set_same}
use Rattle.std.specs.List.{ContainsAt as Has}
use Rattle.std.proofs.lemmas.Bool.{leb-true}
use Rattle.network.specs.declared.estimates.Bound.{Bound}
use Rattle.network.specs.declared.legs.Leg.{Leg}
use Rattle.network.specs.Tariffs.{Terms}
use Rattle.network.specs.Walks.{leg_at}
use Rattle.network.proofs.Ranges.{ranges}
use Rattle.queue.specs.declared.entry.Entry.{Entry}
use Rattle.queue.proofs.Bags.{has_insert_new, has_insert_old, rising_insert}
use Rattle.worksheet.specs.declared.records.Due.{Due}
use Rattle.worksheet.specs.declared.records.Label.{Label}
use Rattle.worksheet.specs.declared.records.Mark.{Mark}
use Rattle.worksheet.specs.declared.records.Phase.TheVariants.{Open}
use Rattle.worksheet.specs.Problem.{Problem, extend}
use Rattle.worksheet.specs.Steps.{State, no_label, label_at, entry_of, write, child, estimated, try, expand}
use Rattle.worksheet.specs.Series.{Accepted}
use Rattle.worksheet.proofs.Members.{has_none, each_cons, each_insert}
use Rattle.worksheet.proofs.Marks.{covers_itself, costs, extend_small}
use Rattle.worksheet.proofs.Estimates.{Sooner, sooner_through, Ranked, cheaper, child_later, cut_off_hopeless, late_hopeless}
use Rattle.worksheet.proofs.Ways.{stopped_not_open, shut, elsewhere, cut_off, late, beaten, Tried, passed, full, wrote, tried}
use Rattle.worksheet.proofs.Growing.{expand_was_open}
use Rattle.worksheet.proofs.Chains.{LegsFrom, tried_at, label_kept}
use Rattle.worksheet.proofs.Covering.{Settled, Sound, Handled, hopeless, covered, waiting, Fair}

-- The same, of a state's own tables.
abbrev pub HandledIn : Problem → State → List Settled → ℕ → Mark → Type 0
HandledIn p s done v m = Handled p s.labels s.count s.bag done v m

abbrev pub FairIn : Problem → State → List Settled → Type 0
FairIn p s done = Fair p s.labels s.count s.least s.bag done

-- The entries of s are in t, with the same labels.
pub record Kept (s t : State) (e : Entry) : Type 0 where
  pub at : Has t.bag e
  pub below : e.label < t.count
  pub label : label_at t.labels e.label ≡ label_at s.labels e.label

abbrev pub Keeps : State → State → Type 0
Keeps s t = (e : Entry) → Has s.bag e → e.label < s.count → Kept s t e

pub handled_kept : (p : Problem) (s t : State) (done : List Settled) → Keeps s t → (v : ℕ) (m : Mark) → HandledIn p s done v m → HandledIn p t done v m
handled_kept p s t done k v m (hopeless q) = hopeless q
handled_kept p s t done k v m (covered x at site c) = covered x at site c
handled_kept p s t done k v m (waiting e at below site c) = let h = k e at below in waiting e h.at h.below (ap (λ (l : Label). l.site) h.label ∙ site) c

write_keeps : (d : Due) (s : State) → Keeps s (write d s)
write_keeps d s e at below = record { at = has_insert_old (entry_of s.count d) s.bag e at; below = omega arith; label = label_kept s.labels s.count d.label e.label below }

try_keeps : (p : Problem) (i : ℕ) (l : Label) (j : ℕ) (leg : Leg) (s t : State) → Tried p i l j leg s t → Keeps s t
try_keeps p i l j leg s t (wrote h d x r) e at below = write_keeps _ s e at below
try_keeps p i l j leg s t way e at below = record { at = at; below = below; label = refl }

pub expand_keeps : (p : Problem) (i : ℕ) (l : Label) (j : ℕ) (legs : List Leg) (s : State) → Keeps s (expand p i l j legs s)
expand_keeps p i l j [] s e at below = record { at = at; below = below; label = refl }
expand_keeps p i l j (leg ∷ more) s e at below =
    let t = try p i l j leg s in
    let h = try_keeps p i l j leg s t (tried p i l j leg s) e at below in
    let k = expand_keeps p i l (suc j) more t e h.at h.below in
    record { at = k.at; below = k.below; label = k.label ∙ h.label }

-- No settled label comes after the cost c with the estimated cost e.
abbrev pub AllSooner : ℕ → ℕ → List Settled → Type 0
AllSooner e c done = (x : Settled) → Has done x → Sooner x.estimate x.mark.cost e c

-- A label more, with its entry, keeps the bag fair.
sound_kept : (p : Problem) (ls : List Label) (n : ℕ) (x : Label) (e : Entry) → Sound p ls n e → Sound p (set ls n x) (suc n) e
sound_kept p ls n x e h =
    let same : label_at (set ls n x) e.label ≡ label_at ls e.label = label_kept ls n x e.label h.below in
    record { below = omega (arith, h.below); mark = rw same h.mark; ranked = rw same h.ranked; within = h.within; place = rw same h.place }

pub write_fair : (p : Problem) (d : Due) (s : State) (done : List Settled) → s.count < length s.labels → Ranked p d.label.site d.label.mark.cost d.estimate → d.label.mark.delay ≤ p.limit → d.label.site < p.sites
    → AllSooner d.estimate d.label.mark.cost done → FairIn p s done → FairIn p (write d s) done
write_fair p d s done room ranked within place later f = record {
  sound = each_insert (Sound p (set s.labels s.count d.label) (suc s.count)) (entry_of s.count d) s.bag new (λ e at. sound_kept p s.labels s.count d.label e (f.sound e at));
  rising = rising_insert (entry_of s.count d) s.bag f.rising;
  ranked = f.ranked;
  order = λ x at. each_insert (λ e. Sooner x.estimate x.mark.cost e.estimate e.cost) (entry_of s.count d) s.bag (later x at) (f.order x at);
  due = f.due;
}
  where
    new : Sound p (set s.labels s.count d.label) (suc s.count) (entry_of s.count d)
    new =
        let same : label_at (set s.labels s.count d.label) s.count ≡ d.label = get_or-set_same s.labels s.count d.label no_label room in
        record { below = omega arith; mark = sym (ap (λ (z : Label). z.mark) same); ranked = rw same ranked; within = within; place = rw same place }

-- The child of l by this leg was handled, if the leg leaves the site of l.
abbrev pub ChildHandled : Problem → Label → List Settled → State → Leg → Type 0
ChildHandled p l done s leg = leg.tail ≡ l.site → HandledIn p s done leg.head (extend p.graph l.mark leg)

-- While label i, which is l and whose entry has the estimated cost e, is expanded.
module _ {t : Terms} {p : Problem} {w : State} (acc : Accepted t p w) (i : ℕ) (l : Label) (e : ℕ) (ranked : Ranked p l.site l.mark.cost e) (done : List Settled) (sooner : AllSooner e l.mark.cost done) where
  module _ (j : ℕ) (b : j < length p.graph.legs) where
    abbrev leg : Leg
    leg = leg_at p.graph j

    abbrev mark : Mark
    mark = extend p.graph l.mark (leg_at p.graph j)

    small : mark.cost < 2 ^ 64
    small = extend_small p.graph (costs acc) j b l.mark ranked.cost_small

    place : leg.head < p.sites
    place = (ranges p.sites leg (acc.legs_in_range j b)).head

    child_ranked : (h : Bound) → p.at leg.head ≡ Some h → Ranked p leg.head mark.cost (p.graph.join mark.cost h.cost)
    child_ranked h k = record { bound = h; known = k; cost_small = small; bound_small = acc.head_estimates_fit j b h k; estimate = refl }

    -- The child comes no sooner than l, and so than all settled labels.
    child_is_later : leg.tail ≡ l.site → (h : Bound) → p.at leg.head ≡ Some h → AllSooner (p.graph.join mark.cost h.cost) mark.cost done
    child_is_later q h k x at =
        let after = child_later acc j b l.mark e (p.graph.join mark.cost h.cost) (rw q ranked) (child_ranked h k) in
        sooner_through x.estimate x.mark.cost e l.mark.cost (p.graph.join mark.cost h.cost) mark.cost (sooner x at) after

    try_fair : (s u : State) → Tried p i l j leg s u → FairIn p s done → FairIn p u done
    try_fair s u (wrote h d x r) f = write_fair p (estimated p.graph (child p.graph i l j leg) h) s done x (child_ranked h d.known) (omega (arith, d.within)) place (child_is_later d.here h d.known) f
    try_fair s u way f = f

    -- A dominated child is covered: what its head's record is due to was taken sooner, so that it costs no more.
    dominated_covered : (s : State) → leg.tail ≡ l.site → FairIn p s done → (h : Bound) → p.at leg.head ≡ Some h → mark.delay + h.delay ≤ p.limit → get_or s.least leg.head 0 ≤ mark.delay → HandledIn p s done leg.head mark
    dominated_covered s q f h k fits r =
        let due = f.due leg.head mark.delay place r (omega arith) in
        let x = due.by in
        let first = subst (λ u. Ranked p u x.mark.cost x.estimate) due.site (f.ranked x due.at) in
        covered x due.at due.site
        (cheaper acc leg.head x.mark.cost x.estimate mark.cost (p.graph.join mark.cost h.cost) first (child_ranked h k) (child_is_later q h k x due.at), due.delay)

    try_handles : (s u : State) → Tried p i l j leg s u → u.phase ≡ Open → FairIn p s done → ChildHandled p l done u leg
    try_handles s u (passed (shut q)) o f here = absurd (q o)
    try_handles s u (passed (elsewhere q)) o f here = absurd (q here)
    try_handles s u (passed (cut_off q)) o f here = hopeless (cut_off_hopeless acc leg.head mark small q)
    try_handles s u (passed (late h k q)) o f here = hopeless (late_hopeless acc leg.head mark h small k q)
    try_handles s u (passed (beaten h k fits q)) o f here = dominated_covered s here f h k fits (leb-true _ _ q)
    try_handles s u (full h why d x) o f here = absurd (stopped_not_open why o)
    try_handles s u (wrote h d x r) o f here =
        let k = child p.graph i l j leg in
        let first = entry_of s.count (estimated p.graph k h) in
        let is : label_at (set s.labels s.count k) s.count ≡ k = get_or-set_same s.labels s.count k no_label x in
        waiting first (has_insert_new first s.bag) (omega arith) (ap (λ (z : Label). z.site) is) (covers_itself k.mark)

  pub expand_fair : (j : ℕ) (legs : List Leg) (s : State) → LegsFrom p.graph j legs → FairIn p s done → FairIn p (expand p i l j legs s) done
  expand_fair j [] s q f = f
  expand_fair j (a ∷ more) s q f = let u = try p i l j a s in expand_fair (suc j) more u q.2 (try_fair j q.0 s u (tried_at p i l j a s q.1) f)

  pub expand_handles : (j : ℕ) (legs : List Leg) (s : State) → LegsFrom p.graph j legs → FairIn p s done → (expand p i l j legs s).phase ≡ Open → (a : Leg) → Has legs a → ChildHandled p l done (expand p i l j legs s) a
  expand_handles j [] s q f o = λ a at. absurd (has_none a at)
  expand_handles j (first ∷ more) s q f o =
      let u = try p i l j first s in
      let end = expand p i l (suc j) more u in
      let way = tried_at p i l j first s q.1 in
      let here : ChildHandled p l done u first = subst (ChildHandled p l done u) (sym q.1) (try_handles j q.0 s u way (expand_was_open p i l (suc j) more u o) f) in
      each_cons (ChildHandled p l done end) first more
      (λ k. handled_kept p u end done (expand_keeps p i l (suc j) more u) first.head (extend p.graph l.mark first) (here k))
      (expand_handles (suc j) more u q.2 (try_fair j q.0 s u way f) o)
