-- Every route is covered by a label settled at the goal, or goes on from an entry that waits. Assumes nothing.
use Rattle.std.proofs.Common.{◌≡◌, ℕ, ◌^◌, ◌<◌, ◌≤◌, List, [], ◌∷◌, length, get_or, sym, ◌∙◌, subst, ⊎_elim, le_trans, arith}
use Rattle.std.specs.List.{ContainsAt as Has}
use Rattle.std.proofs.lemmas.Bool.{cases_eq}
use Rattle.network.specs.Tariffs.{Terms}
use Rattle.network.specs.Walks.{leg_at, Walk}
use Rattle.queue.specs.declared.entry.Entry.{Entry}
use Rattle.queue.specs.Bag.{Rising}
use Rattle.worksheet.specs.declared.records.Label.{Label}
use Rattle.worksheet.specs.declared.records.Mark.{Mark}
use Rattle.worksheet.specs.Problem.{Problem, extend}
use Rattle.worksheet.specs.Steps.{State, label_at}
use Rattle.worksheet.specs.Series.{Accepted, Covers}
use Rattle.worksheet.proofs.Marks.{finish, covers_through, costs, extend_small, extend_ordered, finish_more, finish_ordered}
use Rattle.worksheet.proofs.Estimates.{Hopeless, Sooner, Ranked}

-- A label that was taken and not dropped, with its entry's estimated cost.
pub record Settled : Type 0 where
  pub site : ℕ
  pub mark : Mark
  pub estimate : ℕ

abbrev pub mark_of : Entry → Mark
mark_of e = record { cost = e.cost; delay = e.delay }

-- The entry says what its label says. The first n of the labels ls are written.
pub record Sound (p : Problem) (ls : List Label) (n : ℕ) (e : Entry) : Type 0 where
  pub below : e.label < n
  pub mark : mark_of e ≡ (label_at ls e.label).mark
  pub ranked : Ranked p (label_at ls e.label).site e.cost e.estimate
  pub within : e.delay ≤ p.limit
  pub place : (label_at ls e.label).site < p.sites

-- What became of mark m at site v: no route goes on from it, or a settled label there covers it, or an entry of the bag b
-- that waits there does.
pub data Handled (p : Problem) (ls : List Label) (n : ℕ) (b : List Entry) (done : List Settled) (v : ℕ) (m : Mark) : Type 0 where
  hopeless : Hopeless p v m → Handled p ls n b done v m
  covered : (x : Settled) → Has done x → x.site ≡ v → Covers x.mark m → Handled p ls n b done v m
  waiting : (e : Entry) → Has b e → e.label < n → (label_at ls e.label).site ≡ v → Covers (mark_of e) m → Handled p ls n b done v m

-- Away from the goal, the child by each leg from the settled label's site was handled.
abbrev pub Closed : Problem → List Label → ℕ → List Entry → List Settled → Settled → Type 0
Closed p ls n b done x =
    (x.site ≡ p.goal → ⊥) → (j : ℕ) → j < length p.graph.legs → (leg_at p.graph j).tail ≡ x.site → Handled p ls n b done (leg_at p.graph j).head (extend p.graph x.mark (leg_at p.graph j))

-- A settled label at site v has at most the delay d.
pub record DueTo (done : List Settled) (v d : ℕ) : Type 0 where
  pub by : Settled
  pub at : Has done by
  pub site : by.site ≡ v
  pub delay : by.mark.delay ≤ d

-- The entries are sound, rise, and come after all settled labels; each least-delay record is due to a settled label.
pub record Fair (p : Problem) (ls : List Label) (n : ℕ) (least : List ℕ) (b : List Entry) (done : List Settled) : Type 0 where
  pub sound : (e : Entry) → Has b e → Sound p ls n e
  pub rising : Rising b
  pub ranked : (x : Settled) → Has done x → Ranked p x.site x.mark.cost x.estimate
  pub order : (x : Settled) → Has done x → (e : Entry) → Has b e → Sooner x.estimate x.mark.cost e.estimate e.cost
  pub due : (v d : ℕ) → v < p.sites → get_or least v 0 ≤ d → d ≤ p.limit → DueTo done v d

-- The mark f of a route: a label settled at the goal covers it, or a walk on from an entry does.
pub data Reached (p : Problem) (ls : List Label) (b : List Entry) (done : List Settled) (f : Mark) : Type 0 where
  arrived : (x : Settled) → Has done x → x.site ≡ p.goal → Covers x.mark f → Reached p ls b done f
  ahead : (e : Entry) → Has b e → (js : List ℕ) → Walk p.graph (label_at ls e.label).site js p.goal → Covers (finish p.graph (mark_of e) js) f → Reached p ls b done f

reached_more : (p : Problem) (ls : List Label) (b : List Entry) (done : List Settled) (f g : Mark) → Covers f g → Reached p ls b done f → Reached p ls b done g
reached_more p ls b done f g h (arrived x at e c) = arrived x at e (covers_through x.mark f g c h)
reached_more p ls b done f g h (ahead e at js q c) = ahead e at js q (covers_through (finish p.graph (mark_of e) js) f g c h)

-- By induction over the walk: where its mark so far was handled, the route that it ends as is reached.
module _ {t : Terms} {p : Problem} {w : State} (acc : Accepted t p w) (ls : List Label) (n : ℕ) (b : List Entry) (done : List Settled) (closed : (x : Settled) → Has done x → Closed p ls n b done x) where
  pub handled_is_reached : (js : List ℕ) (u : ℕ) (m : Mark) → m.cost < 2 ^ 64 → Handled p ls n b done u m → Walk p.graph u js p.goal → (finish p.graph m js).delay ≤ p.limit → Reached p ls b done (finish p.graph m js)
  handled_is_reached js u m small (hopeless k) q h = absurd (k js q h)
  handled_is_reached js u m small (waiting e at _ site c) q h = ahead e at js (subst (λ x. Walk p.graph x js p.goal) (sym site) q) (finish_ordered p.graph (costs acc) js u p.goal q (mark_of e) m small c)
  handled_is_reached [] u m small (covered x at site c) q h = arrived x at (site ∙ q) c
  handled_is_reached (j ∷ js) u m small (covered x at site c) q h =
      let g = p.graph in
      let f = finish g m (j ∷ js) in
      ⊎_elim (λ (goal : x.site ≡ p.goal). arrived x at goal (covers_through x.mark m f c (finish_more g (costs acc) (j ∷ js) u p.goal q m small)))
      (λ (away : x.site ≡ p.goal → ⊥).
      let leg = leg_at g j in
      let y = extend g x.mark leg in
      let small_x : x.mark.cost < 2 ^ 64 = omega (arith, c.0) in
      let less = finish_ordered g (costs acc) js leg.head p.goal q.2 y (extend g m leg) (extend_small g (costs acc) j q.0 m small) (extend_ordered g (costs acc) j q.0 x.mark m small c) in
      reached_more p ls b done (finish g y js) f less
      (handled_is_reached js leg.head y (extend_small g (costs acc) j q.0 x.mark small_x) (closed x at away j q.0 (q.1 ∙ sym site)) q.2 (le_trans less.1 h)))
      (cases_eq x.site p.goal)
