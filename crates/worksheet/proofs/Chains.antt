-- Every label stands for the walk that its parents tell. Assumes nothing.
use Rattle.std.proofs.Common.{◌≡◌, ℕ, zero, suc, ◌+◌, ◌<◌, ◌≤◌, List, [], ◌∷◌, ◌++◌, length, get_or, set, Some, None, Option, sym, refl, ap, ◌∙◌, subst, ⊎_elim, append_assoc, arith, length-append, length-set, get_or-set_other, get_or-set_same}
use lib.Seq.{get_or-append_seam}
use Rattle.std.proofs.lemmas.Bool.{cases_lt}
use Rattle.network.specs.declared.legs.Leg.{Leg}
use Rattle.network.specs.Walks.{Graph, no_leg, leg_at, Walk}
use Rattle.worksheet.specs.declared.records.Label.{Label}
use Rattle.worksheet.specs.declared.records.Mark.{Mark}
use Rattle.worksheet.specs.declared.records.Origin.{Origin}
use Rattle.worksheet.specs.Problem.{Problem, nothing, extend}
use Rattle.worksheet.specs.Steps.{State, no_label, label_at, child, try, expand}
use Rattle.worksheet.specs.Traces.{traced, trace}
use Rattle.worksheet.specs.Series.{Linked}
use Rattle.worksheet.proofs.Marks.{finish}
use Rattle.worksheet.proofs.Ways.{Tried, wrote, tried}

-- The list has the graph's legs from number j on.
abbrev pub LegsFrom : Graph → ℕ → List Leg → Type 0
LegsFrom g j [] = Unit {0}
LegsFrom g j (leg ∷ more) = (j < length g.legs) × (leg ≡ leg_at g j) × LegsFrom g (suc j) more

legs_after : (g : Graph) (front legs : List Leg) → g.legs ≡ front ++ legs → LegsFrom g (length front) legs
legs_after g front [] e = tt
legs_after g front (leg ∷ more) e = (
  omega (arith, ap length e, length-append front (leg ∷ more)),
  sym (ap (λ (x : List Leg). get_or x (length front) no_leg) e ∙ get_or-append_seam front leg more no_leg),
  subst (λ n. LegsFrom g n more) (omega (arith, length-append front (leg ∷ []))) (legs_after g (front ++ (leg ∷ [])) more (e ∙ sym (append_assoc front (leg ∷ []) more))),
)

pub all_legs : (g : Graph) → LegsFrom g 0 g.legs
all_legs g = legs_after g [] g.legs refl

-- What trying a leg comes to, said of the leg by its number.
pub tried_at : (p : Problem) (i : ℕ) (l : Label) (j : ℕ) (leg : Leg) (s : State) → leg ≡ leg_at p.graph j → Tried p i l j (leg_at p.graph j) s (try p i l j leg s)
tried_at p i l j leg s e = subst (λ (x : Leg). Tried p i l j x s (try p i l j leg s)) e (tried p i l j leg s)

-- Label l, of number i, is the empty walk at the start.
pub record First (p : Problem) (i : ℕ) (l : Label) : Type 0 where
  pub number : i ≡ 0
  pub site : l.site ≡ p.start
  pub mark : l.mark ≡ nothing

-- It is its parent's walk with one leg more.
pub record OneMore (p : Problem) (ls : List Label) (i : ℕ) (l : Label) (o : Origin) : Type 0 where
  pub below : o.parent < i
  pub is_leg : o.leg < length p.graph.legs
  pub leaves : (leg_at p.graph o.leg).tail ≡ (label_at ls o.parent).site
  pub site : l.site ≡ (leg_at p.graph o.leg).head
  pub mark : l.mark ≡ extend p.graph (label_at ls o.parent).mark (leg_at p.graph o.leg)

-- What it has by its origin.
abbrev pub Told : Problem → List Label → ℕ → Label → Option Origin → Type 0
Told p ls i l None = First p i l
Told p ls i l (Some o) = OneMore p ls i l o

abbrev pub Chained : Problem → List Label → ℕ → Type 0
Chained p ls n = (i : ℕ) → i < n → Told p ls i (label_at ls i) (label_at ls i).from

pub told_linked : (p : Problem) (ls : List Label) (i : ℕ) (l : Label) (o : Option Origin) → Told p ls i l o → Linked (length p.graph.legs) i o
told_linked p ls i l None t = t.number
told_linked p ls i l (Some o) t = (t.below, t.is_leg)

-- A label that is written leaves those before it as they are.
pub label_kept : (ls : List Label) (n : ℕ) (x : Label) (i : ℕ) → i < n → label_at (set ls n x) i ≡ label_at ls i
label_kept ls n x i h = get_or-set_other ls n i x no_label (omega arith)

told_kept : (p : Problem) (ls : List Label) (n : ℕ) (x : Label) (i : ℕ) → i ≤ n → (l : Label) (o : Option Origin) → Told p ls i l o → Told p (set ls n x) i l o
told_kept p ls n x i h l None t = t
told_kept p ls n x i h l (Some o) t =
    let same : label_at (set ls n x) o.parent ≡ label_at ls o.parent = label_kept ls n x o.parent (omega (arith, t.below)) in
    record { below = t.below; is_leg = t.is_leg; leaves = rw same t.leaves; site = t.site; mark = rw same t.mark }

pub chained_more : (p : Problem) (ls : List Label) (n : ℕ) (x : Label) → n < length ls → Chained p ls n → Told p ls n x x.from → Chained p (set ls n x) (suc n)
chained_more p ls n x room c t i h = ⊎_elim old new (cases_lt i n)
  where
    old : i < n → Told p (set ls n x) i (label_at (set ls n x) i) (label_at (set ls n x) i).from
    old b = subst (λ (l : Label). Told p (set ls n x) i l l.from) (sym (label_kept ls n x i b)) (told_kept p ls n x i (omega arith) (label_at ls i) (label_at ls i).from (c i b))

    new : n ≤ i → Told p (set ls n x) i (label_at (set ls n x) i) (label_at (set ls n x) i).from
    new b =
        let e : n ≡ i = omega arith in
        subst (λ k. Told p (set ls n x) k (label_at (set ls n x) k) (label_at (set ls n x) k).from) e
        (subst (λ (l : Label). Told p (set ls n x) n l l.from) (sym (get_or-set_same ls n x no_label room)) (told_kept p ls n x n (omega arith) x x.from t))

-- The walk ks leads from the start to v, and comes to what js comes to after m.
pub record Leads (p : Problem) (v : ℕ) (m : Mark) (js ks : List ℕ) : Type 0 where
  pub walk : Walk p.graph p.start ks v
  pub comes_to : finish p.graph nothing ks ≡ finish p.graph m js

module _ (p : Problem) (ls : List Label) (n : ℕ) (c : Chained p ls n) (v : ℕ) where
  from_start : (i : ℕ) (l : Label) (js : List ℕ) → First p i l → Walk p.graph l.site js v → Leads p v l.mark js js
  from_start i l js t q = record { walk = subst (λ u. Walk p.graph u js v) t.site q; comes_to = ap (λ (x : Mark). finish p.graph x js) (sym t.mark) }

  traced_leads : (fuel i : ℕ) (o : Option Origin) → i ≤ fuel → i < n → Told p ls i (label_at ls i) o → (js : List ℕ) → Walk p.graph (label_at ls i).site js v → Leads p v (label_at ls i).mark js (traced ls fuel o js)
  traced_leads zero i None h b t js q = from_start i (label_at ls i) js t q
  traced_leads zero i (Some o) h b t js q = absurd (omega (arith, t.below))
  traced_leads (suc fuel) i None h b t js q = from_start i (label_at ls i) js t q
  traced_leads (suc fuel) i (Some o) h b t js q =
      let k = o.parent in
      let r = traced_leads fuel k (label_at ls k).from (omega (arith, t.below)) (omega (arith, t.below)) (c k (omega (arith, t.below))) (o.leg ∷ js) (t.is_leg, t.leaves, subst (λ u. Walk p.graph u js v) t.site q) in
      record { walk = r.walk; comes_to = r.comes_to ∙ ap (λ (x : Mark). finish p.graph x js) (sym t.mark) }

  pub trace_leads : (i : ℕ) → i < n → (label_at ls i).site ≡ v → Leads p v (label_at ls i).mark [] (trace ls i)
  trace_leads i b e = traced_leads i i (label_at ls i).from (omega arith) b (c i b) [] e

-- A traced walk has no more legs than there are labels before its last.
traced_short : (ls : List Label) (fuel : ℕ) (o : Option Origin) (js : List ℕ) → length (traced ls fuel o js) ≤ fuel + length js
traced_short ls zero o js = omega arith
traced_short ls (suc fuel) None js = omega arith
traced_short ls (suc fuel) (Some o) js = omega (arith, traced_short ls fuel (label_at ls o.parent).from (o.leg ∷ js))

pub trace_short : (ls : List Label) (i : ℕ) → length (trace ls i) ≤ i
trace_short ls i = omega (arith, traced_short ls i (label_at ls i).from [])

-- While label i, which is l, is expanded: all labels stay chained.
pub record Expanding (p : Problem) (i : ℕ) (l : Label) (ls : List Label) (n : ℕ) : Type 0 where
  pub below : i < n
  pub fits : n ≤ length ls
  pub is : label_at ls i ≡ l
  pub chained : Chained p ls n

try_chained : (p : Problem) (i : ℕ) (l : Label) (j : ℕ) (s t : State) → j < length p.graph.legs → Tried p i l j (leg_at p.graph j) s t → Expanding p i l s.labels s.count → Expanding p i l t.labels t.count
try_chained p i l j s t h (wrote q d x y) k =
    let leg = leg_at p.graph j in
    record {
      below = omega (arith, k.below);
      fits = omega (arith, length-set s.labels s.count (child p.graph i l j leg));
      is = label_kept s.labels s.count (child p.graph i l j leg) i k.below ∙ k.is;
      chained = chained_more p s.labels s.count (child p.graph i l j leg) x k.chained
          (record {
            below = k.below;
            is_leg = h;
            leaves = d.here ∙ ap (λ (z : Label). z.site) (sym k.is);
            site = refl;
            mark = ap (λ (z : Label). extend p.graph z.mark leg) (sym k.is);
          });
    }
try_chained p i l j s t h way k = k

pub expand_chained : (p : Problem) (i : ℕ) (l : Label) (j : ℕ) (legs : List Leg) (s : State) → LegsFrom p.graph j legs → Expanding p i l s.labels s.count → Expanding p i l (expand p i l j legs s).labels (expand p i l j legs s).count
expand_chained p i l j [] s t k = k
expand_chained p i l j (leg ∷ more) s t k = let u = try p i l j leg s in expand_chained p i l (suc j) more u t.2 (try_chained p i l j s u t.0 (tried_at p i l j leg s t.1) k)
