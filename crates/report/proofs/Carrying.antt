-- A refused reading carries the line where the reader then stands. Assumes nothing.
use Rattle.std.proofs.Common.{◌≡◌, ℕ, Bool, true, false, cond, eqb, List, [], ◌∷◌, ◌++◌, length, Some, None, Ok, Err, Option, Result, refl, subst}
use Rattle.std.proofs.lemmas.Bool.{cond_both}
use Rattle.network.specs.declared.legs.Leg.{Leg}
use Rattle.network.specs.declared.plans.Plan.{Plan}
use Rattle.network.specs.declared.refusals.Place.TheVariants as place
use Rattle.network.specs.declared.refusals.Refusal.{Refusal}
use Rattle.network.specs.declared.refusals.Refusal.TheVariants.{Unended, UnknownWord}
use Rattle.network.specs.Refusals.{place_of}
use Rattle.sheet.specs.Entries.{leg_of, plan_of, sites_of, in_range, entry_by, leg_entry}
use Rattle.sheet.specs.Numbers.{well_formed, numbers_of}
use Rattle.sheet.specs.Text.{Row, fields, values}
use Rattle.sheet.specs.Words.{Kind, network, leg, plan, kind_by_word}
use Rattle.sheet.specs.Sheets.{or_refuse, row_kind, and_then, sites_stated, with_room, leg_stated, plan_stated, Load, load, sized, has_room, by_leg, legs_from, by_sites, loaded_from, by_plan, next_from, past, one_more}

-- Where something is refused, the refusal carries the line.
abbrev pub Carries : {X : Type 0} → ℕ → Result X Refusal → Type 0
Carries line (Ok x) = Unit {0}
Carries line (Err why) = place_of why ≡ Some (place.Line line)

pub carries_at : {X : Type 0} (line : ℕ) (x : Result X Refusal) (why : Refusal) → x ≡ Err why → Carries line x → place_of why ≡ Some (place.Line line)
carries_at {X = X} line x why e c = subst (λ (y : Result X Refusal). Carries line y) e c

module _ (line : ℕ) where
  range_carries : {X : Type 0} (o : Option X) → Carries line (in_range line o)
  range_carries None = refl
  range_carries (Some x) = tt

  formed_carries : {X : Type 0} (f : List ℕ → Option X) (o : Option (List ℕ)) → Carries line (entry_by line f (well_formed o))
  formed_carries f None = refl
  formed_carries f (Some vs) = range_carries (f vs)

  entry_carries : {X : Type 0} (f : List ℕ → Option X) (k : ℕ) (fs : List (List ℕ)) → Carries line (entry_by line f (numbers_of k fs))
  entry_carries f k fs = cond_both (eqb (length fs) k) (well_formed (values fs)) _ (λ x. Carries line (entry_by line f x)) (λ _. formed_carries f (values fs)) (λ _. refl)

  word_carries : (o : Option Kind) → Carries line (or_refuse (UnknownWord line) o)
  word_carries None = refl
  word_carries (Some k) = tt

  row_carries : (r : Row) → Carries line (row_kind line r)
  row_carries r = by_end r.ended
    where
      by_end : (b : Bool) → Carries line (cond b (or_refuse (UnknownWord line) (kind_by_word r.bytes)) (Err (Unended line)))
      by_end true = word_carries (kind_by_word r.bytes)
      by_end false = refl

  then_carries : {X Y : Type 0} (x : Result X Refusal) (f : X → Result Y Refusal) → Carries line x → ((y : X) → Carries line (f y)) → Carries line (and_then x f)
  then_carries (Err e) f c d = c
  then_carries (Ok y) f c d = d y

  sites_carries : (k : Kind) → Carries line (sites_stated line k)
  sites_carries (network t) = entry_carries sites_of 1 (fields t)
  sites_carries k = refl

  room_carries : (free : Bool) (x : Result Leg Refusal) → Carries line x → Carries line (with_room line free x)
  room_carries free (Err e) c = c
  room_carries true (Ok l) c = tt
  room_carries false (Ok l) c = refl

  leg_carries : (n : ℕ) (free : Bool) (k : Kind) → Carries line (leg_stated n line free k)
  leg_carries n free (network t) = refl
  leg_carries n free (leg t) = room_carries free (leg_entry n line (fields t)) (entry_carries (leg_of n) 6 (fields t))
  leg_carries n free (plan t) = tt

  plan_carries : (n : ℕ) (k : Kind) → Carries line (plan_stated true n line k)
  plan_carries n (plan t) = entry_carries (plan_of n) 4 (fields t)
  plan_carries n k = refl

  by_plan_carries : (at after : ℕ) (x : Result Plan Refusal) → Carries line x → Carries line (by_plan at line after x).answer
  by_plan_carries at after (Err e) c = c
  by_plan_carries at after (Ok p) c = tt

  -- So does a refused plan line.
  pub next_carries : (n at : ℕ) (rows : List Row) → Carries line (next_from true n at line rows).answer
  next_carries n at [] = tt
  next_carries n at (r ∷ rs) = by_plan_carries at (past at r) (and_then (row_kind line r) (plan_stated true n line)) (then_carries (row_kind line r) (plan_stated true n line) (row_carries r) (plan_carries n))

-- A load, where it stands.
abbrev LoadCarries : Load → Type 0
LoadCarries o = Carries o.line o.outcome

by_leg_carries : (n at line : ℕ) (ls : List Leg) (go : Leg → Load) (x : Result (Option Leg) Refusal) → Carries line x → ((l : Leg) → LoadCarries (go l)) → LoadCarries (by_leg x go (load (Ok (sized n ls)) ls at line) (λ e. load (Err e) ls at line))
by_leg_carries n at line ls go (Err e) c d = c
by_leg_carries n at line ls go (Ok None) c d = tt
by_leg_carries n at line ls go (Ok (Some l)) c d = d l

legs_carries : (n room at line : ℕ) (ls : List Leg) (rows : List Row) → LoadCarries (legs_from n room at line ls rows)
unfolding legs_from
legs_carries n room at line ls [] = tt
legs_carries n room at line ls (r ∷ rs) =
    by_leg_carries n at line ls (λ l. legs_from n room (past at r) (one_more line) (ls ++ l ∷ []) rs) (and_then (row_kind line r) (leg_stated n line (has_room room (length ls))))
    (then_carries line (row_kind line r) (leg_stated n line (has_room room (length ls))) (row_carries line r) (leg_carries line n (has_room room (length ls))))
    (λ l. legs_carries n room (past at r) (one_more line) (ls ++ l ∷ []) rs)

by_sites_carries : (x : Result ℕ Refusal) (go : ℕ → Load) → Carries 1 x → ((n : ℕ) → LoadCarries (go n)) → LoadCarries (by_sites x go)
by_sites_carries (Err e) go c d = c
by_sites_carries (Ok n) go c d = d n

pub load_carries : (room : ℕ) (rows : List Row) → LoadCarries (loaded_from room rows)
unfolding loaded_from
load_carries room [] = refl
load_carries room (r ∷ rs) =
    by_sites_carries (and_then (row_kind 1 r) (sites_stated 1)) (λ n. legs_from n room (past 0 r) (one_more 1) [] rs)
    (then_carries 1 (row_kind 1 r) (sites_stated 1) (row_carries 1 r) (sites_carries 1)) (λ n. legs_carries n room (past 0 r) (one_more 1) [] rs)
