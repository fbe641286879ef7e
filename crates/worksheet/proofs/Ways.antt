-- What trying a leg, and making a step, can come to. Assumes nothing.
use Rattle.std.proofs.Common.{◌≡◌, ℕ, ◌+◌, ◌<◌, ◌≤◌, true, false, eqb, ltb, leb, List, [], ◌∷◌, length, Some, None, Option, refl, arith}
use Rattle.std.proofs.lemmas.Bool.{cond_both, leb-true, leb-false, ltb-true, ltb-false, eqb-true, eqb-false}
use Rattle.network.specs.declared.estimates.Bound.{Bound}
use Rattle.network.specs.declared.legs.Leg.{Leg}
use Rattle.network.specs.declared.refusals.Stop.{Stop}
use Rattle.network.specs.declared.refusals.Stop.TheVariants.{Outside, LabelsUsed, QueueFull}
use Rattle.queue.specs.declared.entry.Entry.{Entry}
use Rattle.worksheet.specs.declared.records.Due.{Due}
use Rattle.worksheet.specs.declared.records.Label.{Label}
use Rattle.worksheet.specs.declared.records.Phase.{Phase}
use Rattle.worksheet.specs.declared.records.Phase.TheVariants.{Open, Found, Exhausted, Stopped}
use Rattle.worksheet.specs.Problem.{Problem, extend}
use Rattle.worksheet.specs.Steps.{State, label_at, in_phase, with_bag, write, is_open, dominated, child, estimated, due_at, due_of, add_due, try, expand, settle, arrive, take_new, inside, label_inside, take_inside, step_from, tick, step}

-- The test of a phase, told.
pub open_told : (q : Phase) → is_open q ≡ true → q ≡ Open
open_told q e = grind arith

-- A phase that is not open, and one that a stop leaves, are not `Open`.
pub not_open : (q : Phase) → is_open q ≡ false → q ≡ Open → ⊥
not_open q e f = cc

pub stopped_not_open : (why : Stop) → Stopped why ≡ Open → ⊥
stopped_not_open why e = cc

-- Why a leg is passed over.
pub data Passed (p : Problem) (l : Label) (leg : Leg) (s : State) : Type 0 where
  shut : (s.phase ≡ Open → ⊥) → Passed p l leg s
  elsewhere : (leg.tail ≡ l.site → ⊥) → Passed p l leg s
  cut_off : p.at leg.head ≡ None → Passed p l leg s
  late : (h : Bound) → p.at leg.head ≡ Some h → p.limit < (extend p.graph l.mark leg).delay + h.delay → Passed p l leg s
  beaten : (h : Bound) → p.at leg.head ≡ Some h → (extend p.graph l.mark leg).delay + h.delay ≤ p.limit → dominated s.least leg.head (extend p.graph l.mark leg) ≡ true → Passed p l leg s

-- What is known where its child is due.
pub record IsDue (p : Problem) (l : Label) (leg : Leg) (s : State) (h : Bound) : Type 0 where
  pub going : s.phase ≡ Open
  pub here : leg.tail ≡ l.site
  pub known : p.at leg.head ≡ Some h
  pub within : (extend p.graph l.mark leg).delay + h.delay ≤ p.limit

-- The table that a stop names has no room: of the label records ls, n are written, and the queue with the bag b has that capacity.
abbrev pub NoRoom : ℕ → List Label → ℕ → List Entry → Stop → Type 0
NoRoom capacity ls n b Outside = ⊥
NoRoom capacity ls n b LabelsUsed = length ls ≤ n
NoRoom capacity ls n b QueueFull = capacity ≤ length b

-- A leg that is tried is passed over, or its child finds no room, or its child is written.
pub data Tried (p : Problem) (i : ℕ) (l : Label) (j : ℕ) (leg : Leg) (s : State) : State → Type 0 where
  passed : Passed p l leg s → Tried p i l j leg s s
  full : (h : Bound) (why : Stop) → IsDue p l leg s h → NoRoom p.capacity s.labels s.count s.bag why → Tried p i l j leg s (in_phase (Stopped why) s)
  wrote : (h : Bound) → IsDue p l leg s h → s.count < length s.labels → length s.bag < p.capacity → Tried p i l j leg s (write (estimated p.graph (child p.graph i l j leg) h) s)

-- One test after another, the last that is made first.
module _ (p : Problem) (i : ℕ) (l : Label) (j : ℕ) (leg : Leg) (s : State) where
  abbrev TriedBy : Option Due → Type 0
  TriedBy o = Tried p i l j leg s (add_due p.capacity o s)

  tried_due : (h : Bound) → IsDue p l leg s h → TriedBy (Some (estimated p.graph (child p.graph i l j leg) h))
  tried_due h d =
      cond_both (ltb s.count (length s.labels)) _ _ (Tried p i l j leg s)
      (λ e. cond_both (ltb (length s.bag) p.capacity) _ _ (Tried p i l j leg s) (λ f. wrote h d (ltb-true _ _ e) (ltb-true _ _ f)) (λ f. full h QueueFull d (ltb-false _ _ f)))
      (λ e. full h LabelsUsed d (ltb-false _ _ e))

  tried_head : s.phase ≡ Open → leg.tail ≡ l.site → (o : Option Bound) → p.at leg.head ≡ o → TriedBy (due_at p.graph p.limit s.least (child p.graph i l j leg) o)
  tried_head a t None k = passed (cut_off k)
  tried_head a t (Some h) k =
      cond_both (leb ((extend p.graph l.mark leg).delay + h.delay) p.limit) _ _ TriedBy
      (λ e. cond_both (dominated s.least leg.head (extend p.graph l.mark leg)) _ _ TriedBy (λ f. passed (beaten h k (leb-true _ _ e) f)) (λ f. tried_due h (record { going = a; here = t; known = k; within = leb-true _ _ e })))
      (λ e. passed (late h k (leb-false _ _ e)))

  tried_of : s.phase ≡ Open → TriedBy (due_of p.graph p.at p.limit s.least i l j leg)
  tried_of a = cond_both (eqb leg.tail l.site) _ _ TriedBy (λ e. tried_head a (eqb-true _ _ e) _ refl) (λ e. passed (elsewhere (eqb-false _ _ e)))

  pub tried : Tried p i l j leg s (try p i l j leg s)
  tried = cond_both (is_open s.phase) _ _ (Tried p i l j leg s) (λ e. tried_of (open_told s.phase e)) (λ e. passed (shut (not_open s.phase e)))

-- The label of an entry.
abbrev pub label_of : State → Entry → Label
label_of s e = label_at s.labels e.label

-- A step finds the bag empty; or its first entry e leads outside, or to a label that is dropped, or to one at the goal, or
-- to one that is expanded.
pub data Stepped (p : Problem) (s : State) : State → Type 0 where
  none_left : s.bag ≡ [] → Stepped p s (in_phase Exhausted s)
  led_outside : (e : Entry) (es : List Entry) → s.bag ≡ e ∷ es → inside p.records p.whole p.graph.legs s.count s.labels e.label ≡ false → Stepped p s (in_phase (Stopped Outside) (with_bag es s))
  dropped : (e : Entry) (es : List Entry) → s.bag ≡ e ∷ es → dominated s.least (label_of s e).site (label_of s e).mark ≡ true → Stepped p s (with_bag es s)
  arrived : (e : Entry) (es : List Entry) → s.bag ≡ e ∷ es → dominated s.least (label_of s e).site (label_of s e).mark ≡ false → (label_of s e).site ≡ p.goal
      → Stepped p s (in_phase (Found e.label (label_of s e).mark) (settle (label_of s e) (with_bag es s)))
  expanded : (e : Entry) (es : List Entry) → s.bag ≡ e ∷ es → dominated s.least (label_of s e).site (label_of s e).mark ≡ false → ((label_of s e).site ≡ p.goal → ⊥)
      → Stepped p s (expand p e.label (label_of s e) 0 p.graph.legs (settle (label_of s e) (with_bag es s)))

-- The tests of a step, the last that is made first.
module _ (p : Problem) (s : State) where
  module _ (e : Entry) (es : List Entry) (q : s.bag ≡ e ∷ es) where
    stepped_arrive : dominated s.least (label_of s e).site (label_of s e).mark ≡ false → Stepped p s (arrive p e.label (label_of s e) (with_bag es s))
    stepped_arrive h = cond_both (eqb (label_of s e).site p.goal) _ _ (Stepped p s) (λ f. arrived e es q h (eqb-true _ _ f)) (λ f. expanded e es q h (eqb-false _ _ f))

    stepped_new : Stepped p s (take_new p e.label (label_of s e) (with_bag es s))
    stepped_new = cond_both (dominated s.least (label_of s e).site (label_of s e).mark) _ _ (Stepped p s) (λ f. dropped e es q f) stepped_arrive

    stepped_inside : Stepped p s (take_inside p e.label (label_inside p.records p.whole p.graph.legs s.count s.labels e.label) (with_bag es s))
    stepped_inside =
        cond_both (inside p.records p.whole p.graph.legs s.count s.labels e.label) _ _ (λ (o : Option Label). Stepped p s (take_inside p e.label o (with_bag es s)))
        (λ _. stepped_new) (λ f. led_outside e es q f)

  stepped_from : (b : List Entry) → s.bag ≡ b → Stepped p s (step_from p b s)
  stepped_from [] q = none_left q
  stepped_from (e ∷ es) q = stepped_inside e es q

pub stepped_ways : (p : Problem) (s : State) → Stepped p (tick s) (step p s)
stepped_ways p s = stepped_from p (tick s) s.bag refl
