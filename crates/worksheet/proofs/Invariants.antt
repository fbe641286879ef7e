-- What is kept from open to step to step, over all offers. Assumes nothing.
use Rattle.std.proofs.Common.{◌≡◌, ℕ, ◌+◌, ◌<◌, ◌≤◌, List, [], ◌∷◌, length, get_or, inl, inr}
use Rattle.std.specs.List.{ContainsAt as Has}
use Rattle.network.specs.declared.refusals.Stop.{Stop}
use Rattle.queue.specs.declared.entry.Entry.{Entry}
use Rattle.worksheet.specs.declared.records.Label.{Label}
use Rattle.worksheet.specs.declared.records.Mark.{Mark}
use Rattle.worksheet.specs.declared.records.Phase.{Phase}
use Rattle.worksheet.specs.declared.records.Phase.TheVariants.{Fresh, Open, Found, Exhausted, Stopped}
use Rattle.worksheet.specs.Problem.{Problem}
use Rattle.worksheet.specs.Steps.{State}
use Rattle.worksheet.specs.Traces.{trace}
use Rattle.worksheet.specs.Series.{RouteOf, walk_mark, Covers, Offered, NextOffer, enough_of}
use Rattle.worksheet.proofs.Members.{has_first, has_rest}
use Rattle.worksheet.proofs.Marks.{covers_through}
use Rattle.worksheet.proofs.Ways.{NoRoom}
use Rattle.worksheet.proofs.Growing.{weight}
use Rattle.worksheet.proofs.Chains.{Chained}
use Rattle.worksheet.proofs.Covering.{Settled}
use Rattle.worksheet.proofs.Taking.{Progress}

-- Of offers: one that covers x covers what x covers, and one that covers m stands in the list.
pub offered_more : (os : List Mark) (x m : Mark) → Covers x m → Offered os x → Offered os m
offered_more [] x m h q = q
offered_more (o ∷ os) x m h (inl q) = inl (covers_through o x m q h)
offered_more (o ∷ os) x m h (inr q) = inr (offered_more os x m h q)

pub offered_by : (os : List Mark) (m : Mark) → Offered os m → (o : Mark) × Has os o × Covers o m
offered_by [] m q = absurd q
offered_by (o ∷ os) m (inl q) = (o, has_first o os, q)
offered_by (o ∷ os) m (inr q) = let r = offered_by os m q in (r.0, has_rest o os r.0 r.1, r.2)

-- A search that can go on, after k steps and with the offers os: each label settled at the goal is covered by an offer, the
-- goal's record is at most each offer's delay, each step took one entry, and what is written and weighs is bounded.
pub record Going (p : Problem) (os : List Mark) (k : ℕ) (ls : List Label) (n : ℕ) (least : List ℕ) (b : List Entry) : Type 0 where
  pub done : List Settled
  pub progress : Progress p ls n least b done
  pub listed : (x : Settled) → Has done x → x.site ≡ p.goal → Offered os x.mark
  pub lowered : (o : Mark) → Has os o → get_or least p.goal 0 ≤ o.delay
  pub taken : k + length b ≡ n
  pub weighed : n + weight least p.graph.legs ≤ enough_of p

-- Where label i is found with the mark m, the search can go on with this offer too, and its walk is the next offer.
pub record FoundNext (p : Problem) (os : List Mark) (k : ℕ) (ls : List Label) (n : ℕ) (least : List ℕ) (b : List Entry) (i : ℕ) (m : Mark) : Type 0 where
  pub going : Going p (m ∷ os) k ls n least b
  pub written : i < n
  pub next : NextOffer p os (trace ls i) m

-- A search that is stopped has filled the table that the stop names, with fewer labels than are enough, and no more entries than
-- labels.
pub record Stuck (p : Problem) (ls : List Label) (n : ℕ) (b : List Entry) (why : Stop) : Type 0 where
  pub filled : NoRoom p.capacity ls n b why
  pub below : n < enough_of p
  pub entries : length b ≤ n

-- What stands in each phase.
abbrev pub Standing : Problem → List Mark → ℕ → List Label → ℕ → List ℕ → List Entry → Phase → Type 0
Standing p os k ls n least b Fresh = ⊥
Standing p os k ls n least b Open = Going p os k ls n least b
Standing p os k ls n least b (Found i m) = FoundNext p os k ls n least b i m
Standing p os k ls n least b Exhausted = (js : List ℕ) → RouteOf p js → Offered os (walk_mark p.graph js)
Standing p os k ls n least b (Stopped why) = Stuck p ls n b why

abbrev pub StandingIn : Problem → List Mark → ℕ → State → Phase → Type 0
StandingIn p os k s q = Standing p os k s.labels s.count s.least s.bag q

pub record Invariant (p : Problem) (os : List Mark) (k : ℕ) (s : State) : Type 0 where
  pub chained : Chained p s.labels s.count
  pub fits : s.count ≤ length s.labels
  pub standing : StandingIn p os k s s.phase
