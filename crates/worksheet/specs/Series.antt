-- A search that is resumed after its offers: which states it comes to, and what is known of each. Assumes nothing.
use Rattle.std.specs.Prelude.{◌≡◌, ℕ, suc, ◌+◌, ◌-◌, ◌^◌, ◌<◌, ◌≤◌, min, true, ◌⊎◌, ◌↔◌, List, [], ◌∷◌, length, Some, None, Option, ◌≢◌}
use Rattle.network.specs.declared.estimates.Bound.{Bound}
use Rattle.network.specs.declared.legs.Leg.{Leg}
use Rattle.network.specs.declared.refusals.Stop.{Stop}
use Rattle.network.specs.declared.refusals.Stop.TheVariants.{Outside, LabelsUsed, QueueFull}
use Rattle.network.specs.Estimates.{LawfulTowards}
use Rattle.network.specs.Legs.{leg_in_range}
use Rattle.network.specs.Tariffs.{Terms, Lawful}
use Rattle.network.specs.Walks.{Graph, leg_at, walk_cost, walk_delay, Route, Cheapest}
use Rattle.worksheet.specs.declared.records.Mark.{Mark}
use Rattle.worksheet.specs.declared.records.Origin.{Origin}
use Rattle.worksheet.specs.declared.records.Phase.TheVariants.{Fresh, Open, Found, Exhausted, Stopped}
use Rattle.worksheet.specs.Problem.{Problem, enough, RoomFor}
use Rattle.worksheet.specs.Steps.{State, label_at, in_phase, opened, step}
use Rattle.worksheet.specs.Traces.{trace}

-- Opened on the tables of w, the search is in state s after k steps, resumed after each of the offers os, the last first. No call
-- resumes a search: those that calls make have no offers. The theorem below covers a search that is resumed all the same.
pub data Series (p : Problem) (w : State) : List Mark → ℕ → State → Type 0 where
  begun : Series p w [] 0 (opened p w)
  stepped : {os : List Mark} {k : ℕ} {s : State} → Series p w os k s → s.phase ≡ Open → Series p w os (suc k) (step p s)
  resumed : {os : List Mark} {k : ℕ} {s : State} (i : ℕ) (m : Mark) → Series p w os k s → s.phase ≡ Found i m → Series p w (m ∷ os) k (in_phase Open s)

-- What an accepted open vouches for, by its tests of the question and of the tables w and by the law of the tariff, whose
-- terms are t. Costs of the estimate count only where the search asks for them.
pub record Accepted (t : Terms) (p : Problem) (w : State) : Type 0 where
  pub tariff_is_lawful : Lawful t
  pub prices : (leg : Leg) → p.graph.price leg ≡ t.price leg.fee leg.grade
  pub joins : (a b : ℕ) → p.graph.join a b ≡ t.join a b
  pub estimate_is_lawful : LawfulTowards p.graph p.at p.goal
  pub start_estimate_fits : (h : Bound) → p.at p.start ≡ Some h → h.cost < 2 ^ 64
  pub head_estimates_fit : (j : ℕ) → j < length p.graph.legs → (h : Bound) → p.at (leg_at p.graph j).head ≡ Some h → h.cost < 2 ^ 64
  pub start_is_site : p.start < p.sites
  pub legs_in_range : (j : ℕ) → j < length p.graph.legs → leg_in_range p.sites (leg_at p.graph j) ≡ true
  pub sites_have_records : p.sites ≤ p.records
  pub table_is_whole : p.whole ≡ true
  pub some_label : 1 ≤ length w.labels

-- The legs js are a route from the start to the goal within the limit.
abbrev pub RouteOf : Problem → List ℕ → Type 0
RouteOf p js = Route p.graph p.start p.goal p.limit js

-- A walk's cost and delay.
abbrev pub walk_mark : Graph → List ℕ → Mark
walk_mark g js = record { cost = walk_cost g js; delay = walk_delay g js }

-- At most the cost and at most the delay.
abbrev pub Covers : Mark → Mark → Type 0
Covers x m = (x.cost ≤ m.cost) × (x.delay ≤ m.delay)

-- One of the offers covers m.
abbrev pub Offered : List Mark → Mark → Type 0
Offered [] m = ⊥
Offered (o ∷ os) m = Covers o m ⊎ Offered os m

-- Less cost, or the same with at most the delay.
abbrev pub NoLater : Mark → Mark → Type 0
NoLater m x = (m.cost < x.cost) ⊎ ((m.cost ≡ x.cost) × (m.delay ≤ x.delay))

-- The legs js, which come to m, are what a search finds next after the offers os: a route that no earlier offer covers. No
-- route is as good in both and better in one, and every route that no earlier offer covers comes after it.
pub record NextOffer (p : Problem) (os : List Mark) (js : List ℕ) (m : Mark) : Type 0 where
  pub route : RouteOf p js
  pub comes_to : walk_mark p.graph js ≡ m
  pub new : Offered os m → ⊥
  pub undominated : (ks : List ℕ) → RouteOf p ks → Covers (walk_mark p.graph ks) m → walk_mark p.graph ks ≡ m
  pub next : (ks : List ℕ) → RouteOf p ks → Offered os (walk_mark p.graph ks) ⊎ NoLater m (walk_mark p.graph ks)

-- No search needs more labels or more entries.
abbrev pub enough_of : Problem → ℕ
enough_of p = enough (length p.graph.legs) p.limit

-- Label i with this origin: only label 0 has none; every other has a parent before it, and one of n legs.
abbrev pub Linked : ℕ → ℕ → Option Origin → Type 0
Linked n i None = i ≡ 0
Linked n i (Some o) = (o.parent < i) × (o.leg < n)

-- The table that stopped a search is full: all label records are used, or the queue holds its capacity.
abbrev pub Full : ℕ → State → Stop → Type 0
Full capacity s Outside = ⊥
Full capacity s LabelsUsed = s.count ≡ length s.labels
Full capacity s QueueFull = length s.bag ≡ capacity

-- What is known of a search in state s after k steps, resumed after the offers os.
pub record Known (p : Problem) (w : State) (os : List Mark) (k : ℕ) (s : State) : Type 0 where
  pub found_is_next : (i : ℕ) (m : Mark) → s.phase ≡ Found i m → NextOffer p os (trace s.labels i) m
  pub found_is_written : (i : ℕ) (m : Mark) → s.phase ≡ Found i m → i < s.count
  pub exhausted_means_all_offered : s.phase ≡ Exhausted → (js : List ℕ) → RouteOf p js → Offered os (walk_mark p.graph js)
  pub never_fresh : s.phase ≢ Fresh
  pub never_outside : s.phase ≢ Stopped Outside
  -- An accepted open has tested that the queue has room for an entry at all.
  pub stopped_means_full : 1 ≤ p.capacity → (why : Stop) → s.phase ≡ Stopped why → Full p.capacity s why
  pub enough_labels : enough_of p ≤ length w.labels → s.phase ≢ Stopped LabelsUsed
  pub enough_entries : enough_of p ≤ p.capacity → s.phase ≢ Stopped QueueFull
  pub enough_room_never_stops : RoomFor (enough_of p) (length w.labels) p.capacity → (why : Stop) → s.phase ≢ Stopped why
  pub enough_steps_end : s.phase ≡ Open → k < 1 + enough_of p
  pub steps_counted : s.steps ≡ min k (2 ^ 64 - 1)
  pub labels_linked : (i : ℕ) → i < s.count → Linked (length p.graph.legs) i (label_at s.labels i).from
  pub labels_fit : s.count ≤ length s.labels
  pub table_kept : length s.labels ≡ length w.labels

-- Resumed after each of its offers, an accepted search finds them all.
abbrev pub SearchFindsAllOffers : Type 0
SearchFindsAllOffers = (t : Terms) (p : Problem) (w : State) → Accepted t p w → (os : List Mark) (k : ℕ) (s : State) → Series p w os k s → Known p w os k s

-- Neither going on nor stopped.
abbrev pub Ended : State → Type 0
Ended s = ((i : ℕ) × (m : Mark) × (s.phase ≡ Found i m)) ⊎ (s.phase ≡ Exhausted)

-- What is known of a search in state s that was not resumed.
pub record FirstKnown (p : Problem) (s : State) : Type 0 where
  pub found_is_cheapest : (i : ℕ) (m : Mark) → s.phase ≡ Found i m → Cheapest p.graph p.start p.goal p.limit (trace s.labels i)
  pub found_comes_to : (i : ℕ) (m : Mark) → s.phase ≡ Found i m → walk_mark p.graph (trace s.labels i) ≡ m
  pub exhausted_means_no_route : Ended s → (s.phase ≡ Exhausted) ↔ ((js : List ℕ) → RouteOf p js → ⊥)

-- The first offer of an accepted search is the cheapest route; ended, the search is exhausted exactly if there is no route.
abbrev pub FirstOfferIsCheapest : Type 0
FirstOfferIsCheapest = (t : Terms) (p : Problem) (w : State) → Accepted t p w → (k : ℕ) (s : State) → Series p w [] k s → FirstKnown p s
