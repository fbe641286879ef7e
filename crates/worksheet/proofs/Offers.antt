-- An accepted search, resumed after each of its offers, finds them all; its first offer is the cheapest route. Assumes nothing.
use Rattle.std.proofs.Common.{◌≡◌, ℕ, ◌≤◌, List, [], length, sym, refl, subst, ⊎_elim, arith}
use Rattle.network.specs.declared.refusals.Stop.{Stop}
use Rattle.network.specs.declared.refusals.Stop.TheVariants.{Outside, LabelsUsed, QueueFull}
use Rattle.network.specs.Tariffs.{Terms}
use Rattle.network.specs.Walks.{Cheapest}
use Rattle.queue.specs.declared.entry.Entry.{Entry}
use Rattle.worksheet.specs.declared.records.Label.{Label}
use Rattle.worksheet.specs.declared.records.Mark.{Mark}
use Rattle.worksheet.specs.declared.records.Phase.{Phase}
use Rattle.worksheet.specs.declared.records.Phase.TheVariants.{Fresh, Open, Found, Exhausted, Stopped}
use Rattle.worksheet.specs.Problem.{Problem, RoomFor}
use Rattle.worksheet.specs.Steps.{State, label_at, tick, step}
use Rattle.worksheet.specs.Traces.{trace}
use Rattle.worksheet.specs.Series.{Series, begun, stepped, resumed, Accepted, walk_mark, Offered, NoLater, NextOffer, enough_of, Full, SearchFindsAllOffers, FirstOfferIsCheapest}
use Rattle.worksheet.proofs.Chains.{told_linked}
use Rattle.worksheet.proofs.Tables.{table_kept, steps_counted, bag_held}
use Rattle.worksheet.proofs.Ways.{NoRoom, stepped_ways}
use Rattle.worksheet.proofs.Invariants.{Going, Stuck, StandingIn, Invariant}
use Rattle.worksheet.proofs.Opening.{open_invariant}
use Rattle.worksheet.proofs.Stepping.{step_invariant}

-- So every state of a series has it. A step counts itself first, which no part of the invariant sees.
module _ {t : Terms} {p : Problem} {w : State} (acc : Accepted t p w) where
  invariant : (os : List Mark) (k : ℕ) (s : State) → Series p w os k s → Invariant p os k s
  invariant os k s begun = open_invariant acc (p.at p.start) refl
  invariant os k s (stepped {k = n} {s = u} r o) =
      let inv = invariant os n u r in
      let ticked : Invariant p os n (tick u) = record { chained = inv.chained; fits = inv.fits; standing = inv.standing } in
      step_invariant acc os n (tick u) ticked (subst (StandingIn p os n u) o inv.standing) o (step p u) (stepped_ways p u)
  invariant os k s (resumed {os = q} {s = u} i m r f) =
      let inv = invariant q k u r in
      record { chained = inv.chained; fits = inv.fits; standing = (subst (StandingIn p q k u) f inv.standing).going }

-- The steps made are at most the labels written, which are at most enough.
early : (p : Problem) (os : List Mark) (k : ℕ) (s : State) → Going p os k s.labels s.count s.least s.bag → k ≤ enough_of p
early p os k s going = omega (arith, going.taken, going.weighed)

-- A table without room is full, as long as no table holds more than it has room for.
full_by : (capacity : ℕ) (s : State) (why : Stop) → NoRoom capacity s.labels s.count s.bag why → s.count ≤ length s.labels → length s.bag ≤ capacity → Full capacity s why
full_by capacity s Outside f a b = f
full_by capacity s LabelsUsed f a b = omega arith
full_by capacity s QueueFull f a b = omega arith

-- With enough room in it, no table fills before there are enough labels.
not_filled : (p : Problem) (ls : List Label) (n : ℕ) (b : List Entry) (why : Stop) → RoomFor (enough_of p) (length ls) p.capacity → Stuck p ls n b why → ⊥
not_filled p ls n b Outside room q = q.filled
not_filled p ls n b LabelsUsed room q = omega (arith, room.0, q.filled, q.below)
not_filled p ls n b QueueFull room q = omega (arith, room.1, q.filled, q.below, q.entries)

pub search_finds_all_offers : SearchFindsAllOffers
search_finds_all_offers t p w acc os k s r =
    let inv = invariant acc os k s r in
    let in_phase : (q : Phase) → s.phase ≡ q → StandingIn p os k s q = λ q e. subst (StandingIn p os k s) e inv.standing in
    let table = table_kept p w os k s r in
    record {
      found_is_next = λ i m e. (in_phase (Found i m) e).next;
      found_is_written = λ i m e. (in_phase (Found i m) e).written;
      exhausted_means_all_offered = λ e. in_phase Exhausted e;
      never_fresh = λ e. in_phase Fresh e;
      never_outside = λ e. (in_phase (Stopped Outside) e).filled;
      stopped_means_full = λ some why e. full_by p.capacity s why (in_phase (Stopped why) e).filled inv.fits (bag_held p some w os k s r);
      enough_labels = λ a e. let q = in_phase (Stopped LabelsUsed) e in omega (arith, a, table, q.filled, q.below);
      enough_entries = λ a e. let q = in_phase (Stopped QueueFull) e in omega (arith, a, q.filled, q.below, q.entries);
      enough_room_never_stops = λ room why e. not_filled p s.labels s.count s.bag why (omega (arith, room.0, table), room.1) (in_phase (Stopped why) e);
      enough_steps_end = λ e. omega (arith, early p os k s (in_phase Open e));
      steps_counted = steps_counted p w os k s r;
      labels_linked = λ i b. told_linked p s.labels i (label_at s.labels i) (label_at s.labels i).from (inv.chained i b);
      labels_fit = inv.fits;
      table_kept = table;
    }

-- Before the first offer no route is covered, so that each comes after what is found.
cheapest : (p : Problem) (js : List ℕ) (m : Mark) → NextOffer p [] js m → Cheapest p.graph p.start p.goal p.limit js
cheapest p js m offer = record {
  route = offer.route;
  best = λ ks a. subst (λ (x : Mark). NoLater x (walk_mark p.graph ks)) (sym offer.comes_to)
      (⊎_elim (λ (x : Offered [] (walk_mark p.graph ks)). absurd x) (λ (x : NoLater m (walk_mark p.graph ks)). x) (offer.next ks a));
}

pub first_offer_is_cheapest : FirstOfferIsCheapest
first_offer_is_cheapest t p w acc k s r =
    let known = search_finds_all_offers t p w acc [] k s r in
    record {
      found_is_cheapest = λ i m e. cheapest p (trace s.labels i) m (known.found_is_next i m e);
      found_comes_to = λ i m e. (known.found_is_next i m e).comes_to;
      exhausted_means_no_route = λ ended. (
        λ e js a. known.exhausted_means_all_offered e js a,
        λ none. ⊎_elim (λ (f : (i : ℕ) × (m : Mark) × (s.phase ≡ Found i m)). absurd (none (trace s.labels f.0) (known.found_is_next f.0 f.1 f.2).route)) (λ (e : s.phase ≡ Exhausted). e) ended,
      );
    }
