-- How an expansion lets the tables grow, and how many labels a search can write. Assumes nothing.
use Rattle.std.proofs.Common.{◌≡◌, ℕ, suc, ◌+◌, ◌<◌, ◌≤◌, cond, eqb, ◌≢◌, ◌⊎◌, List, [], ◌∷◌, length, get_or, set, sym, refl, ◌∙◌, subst, inl, inr, arith, length-set, get_or-set_other, get_or-set_same}
use Rattle.std.proofs.lemmas.List.{get_or_past}
use Rattle.std.proofs.lemmas.Bool.{cond_both, cond-true, eqb-true, eqb-false, eq-eqb}
use Rattle.network.specs.declared.legs.Leg.{Leg}
use Rattle.network.specs.declared.refusals.Stop.{Stop}
use Rattle.queue.proofs.Bags.{length_insert}
use Rattle.worksheet.specs.declared.records.Due.{Due}
use Rattle.worksheet.specs.declared.records.Label.{Label}
use Rattle.worksheet.specs.declared.records.Phase.TheVariants.{Open, Stopped}
use Rattle.worksheet.specs.Problem.{Problem}
use Rattle.worksheet.specs.Steps.{State, entry_of, write, child, estimated, try, expand}
use Rattle.worksheet.proofs.Ways.{stopped_not_open, NoRoom, Tried, passed, full, wrote, tried}

-- How many of the legs leave site u.
abbrev pub leaves : ℕ → Leg → ℕ
leaves u leg = cond (eqb leg.tail u) 1 0

abbrev pub leaving : ℕ → List Leg → ℕ
leaving u [] = 0
leaving u (leg ∷ more) = leaves u leg + leaving u more

-- The least-delay records of the legs' tails, added up.
abbrev pub weight : List ℕ → List Leg → ℕ
weight least [] = 0
weight least (leg ∷ more) = get_or least leg.tail 0 + weight least more

-- A record above another number is there.
pub record_is_there : (least : List ℕ) (u d : ℕ) → d < get_or least u 0 → u < length least
record_is_there least u d h = let n : length least ≤ u → ⊥ = λ l. omega (arith, get_or_past least u 0 l) in omega arith

-- A record that is lowered takes at least one off the weight for each leg that leaves its site.
weight_of_leg : (least : List ℕ) (u d : ℕ) (leg : Leg) → d < get_or least u 0 → get_or (set least u d) leg.tail 0 + leaves u leg ≤ get_or least leg.tail 0
weight_of_leg least u d leg h = cond_both (eqb leg.tail u) 1 0 (λ x. get_or (set least u d) leg.tail 0 + x ≤ get_or least leg.tail 0)
    (λ e. let t = eqb-true leg.tail u e in let lt : u < length least = record_is_there least u d h in rw (t, get_or-set_same) (omega arith))
    (λ e. let ne : leg.tail ≢ u = eqb-false leg.tail u e in rw get_or-set_other (omega arith))

pub weight_falls : (least : List ℕ) (u d : ℕ) (legs : List Leg) → d < get_or least u 0 → weight (set least u d) legs + leaving u legs ≤ weight least legs
weight_falls least u d [] h = omega arith
weight_falls least u d (leg ∷ more) h = omega (arith, weight_of_leg least u d leg h, weight_falls least u d more h)

-- From s to t there are n labels more at the most, each with an entry, and nothing else alters.
pub record Grew (n : ℕ) (s t : State) : Type 0 where
  pub count : t.count ≤ s.count + n
  pub bag : length t.bag + s.count ≡ length s.bag + t.count
  pub least : t.least ≡ s.least
  pub table : length t.labels ≡ length s.labels
  pub steps : t.steps ≡ s.steps

grew_none : (n : ℕ) (s : State) → Grew n s s
grew_none n s = record { count = omega arith; bag = omega arith; least = refl; table = refl; steps = refl }

grew_through : (m n : ℕ) (s t u : State) → Grew m s t → Grew n t u → Grew (m + n) s u
grew_through m n s t u g h = record { count = omega (arith, g.count, h.count); bag = omega (arith, g.bag, h.bag); least = h.least ∙ g.least; table = h.table ∙ g.table; steps = h.steps ∙ g.steps }

write_grew : (d : Due) (s : State) → Grew 1 s (write d s)
write_grew d s = record { count = omega arith; bag = omega (arith, length_insert (entry_of s.count d) s.bag); least = refl; table = length-set s.labels s.count d.label; steps = refl }

-- A leg that is tried with a child due leaves the label's site.
one_leaves : (leg : Leg) (u : ℕ) → leg.tail ≡ u → leaves u leg ≡ 1
one_leaves leg u e = cond-true (eqb leg.tail u) 1 0 (eq-eqb _ _ e)

-- The search is stopped for want of room, with fewer labels than n, or goes on.
pub record OutOfRoom (p : Problem) (n : ℕ) (s : State) : Type 0 where
  pub why : Stop
  pub is : s.phase ≡ Stopped why
  pub filled : NoRoom p.capacity s.labels s.count s.bag why
  pub below : s.count < n

abbrev pub GoesOnOrFull : Problem → ℕ → State → Type 0
GoesOnOrFull p n s = (s.phase ≡ Open) ⊎ OutOfRoom p n s

module _ (p : Problem) (i : ℕ) (l : Label) (j : ℕ) (leg : Leg) (s : State) where
  try_grew : (t : State) → Tried p i l j leg s t → Grew (leaves l.site leg) s t
  try_grew t (passed q) = grew_none (leaves l.site leg) s
  try_grew t (full h why d f) = record { count = omega arith; bag = omega arith; least = refl; table = refl; steps = refl }
  try_grew t (wrote h d x y) = subst (λ n. Grew n s t) (sym (one_leaves leg l.site d.here)) (write_grew _ s)

  -- Each of the label's legs counts for one of the n labels.
  try_goes_on : (n : ℕ) (t : State) → Tried p i l j leg s t → s.count + leaves l.site leg ≤ n → GoesOnOrFull p n s → GoesOnOrFull p n t
  try_goes_on n t (passed q) b h = h
  try_goes_on n t (full a why d f) b h = inr (record { why = why; is = refl; filled = f; below = let one = one_leaves leg l.site d.here in omega arith })
  try_goes_on n t (wrote a d x y) b h = inl d.going

  -- The queue keeps to its capacity.
  try_holds : (t : State) → Tried p i l j leg s t → length s.bag ≤ p.capacity → length t.bag ≤ p.capacity
  try_holds t (wrote h d x y) b = omega (arith, length_insert (entry_of s.count (estimated p.graph (child p.graph i l j leg) h)) s.bag)
  try_holds t way b = b

  try_was_open : (t : State) → Tried p i l j leg s t → t.phase ≡ Open → s.phase ≡ Open
  try_was_open t (full h why d f) e = absurd (stopped_not_open why e)
  try_was_open t way e = e

-- The same for all legs.
pub expand_grew : (p : Problem) (i : ℕ) (l : Label) (j : ℕ) (legs : List Leg) (s : State) → Grew (leaving l.site legs) s (expand p i l j legs s)
expand_grew p i l j [] s = grew_none 0 s
expand_grew p i l j (leg ∷ more) s =
    let t = try p i l j leg s in
    grew_through (leaves l.site leg) (leaving l.site more) s t (expand p i l (suc j) more t) (try_grew p i l j leg s t (tried p i l j leg s)) (expand_grew p i l (suc j) more t)

pub expand_goes_on : (p : Problem) (i : ℕ) (l : Label) (j : ℕ) (legs : List Leg) (n : ℕ) (s : State) → s.count + leaving l.site legs ≤ n → GoesOnOrFull p n s → GoesOnOrFull p n (expand p i l j legs s)
expand_goes_on p i l j [] n s b h = h
expand_goes_on p i l j (leg ∷ more) n s b h =
    let t = try p i l j leg s in
    let v = tried p i l j leg s in
    expand_goes_on p i l (suc j) more n t (omega (arith, b, (try_grew p i l j leg s t v).count)) (try_goes_on p i l j leg s n t v (omega (arith, b)) h)

pub expand_holds : (p : Problem) (i : ℕ) (l : Label) (j : ℕ) (legs : List Leg) (s : State) → length s.bag ≤ p.capacity → length (expand p i l j legs s).bag ≤ p.capacity
expand_holds p i l j [] s b = b
expand_holds p i l j (leg ∷ more) s b = let t = try p i l j leg s in expand_holds p i l (suc j) more t (try_holds p i l j leg s t (tried p i l j leg s) b)

pub expand_was_open : (p : Problem) (i : ℕ) (l : Label) (j : ℕ) (legs : List Leg) (s : State) → (expand p i l j legs s).phase ≡ Open → s.phase ≡ Open
expand_was_open p i l j [] s e = e
expand_was_open p i l j (leg ∷ more) s e = let t = try p i l j leg s in try_was_open p i l j leg s t (tried p i l j leg s) (expand_was_open p i l (suc j) more t e)
