-- An accepted open sets up what each step keeps. Assumes nothing.
use Rattle.std.proofs.Common.{◌≡◌, ℕ, suc, ◌+◌, ◌*◌, ◌<◌, ◌≤◌, Bool, true, false, leb, List, [], ◌∷◌, length, get_or, drop, set, replicate, Some, None, Option, refl, ap, ◌∙◌, arith, length-set, get_or-set_same}
use lib.ListN.{length-replicate, get_or-replicate, get_or-append}
use Rattle.std.proofs.lemmas.Bool.{leb-true, leb-false}
use Rattle.network.specs.declared.estimates.Bound.{Bound}
use Rattle.network.specs.declared.legs.Leg.{Leg}
use Rattle.network.specs.Tariffs.{Terms}
use Rattle.network.specs.Walks.{leg_at}
use Rattle.network.proofs.Ranges.{ranges}
use Rattle.queue.proofs.Bags.{length_insert, has_insert_new, rising_none}
use Rattle.worksheet.specs.declared.records.Label.{Label}
use Rattle.worksheet.specs.Problem.{Problem, nothing}
use Rattle.worksheet.specs.Steps.{State, no_label, label_at, entry_of, write, estimated, bare, start_label, open_fit, open_at}
use Rattle.worksheet.specs.Series.{Accepted}
use Rattle.worksheet.proofs.Members.{has_none}
use Rattle.worksheet.proofs.Marks.{covers_itself}
use Rattle.worksheet.proofs.Estimates.{Ranked, cut_off_hopeless, late_hopeless}
use Rattle.worksheet.proofs.Growing.{weight}
use Rattle.worksheet.proofs.Chains.{LegsFrom, all_legs, chained_more}
use Rattle.worksheet.proofs.Covering.{hopeless, waiting}
use Rattle.worksheet.proofs.Expanding.{HandledIn, FairIn, write_fair}
use Rattle.worksheet.proofs.Invariants.{Invariant}

-- With every record at most a, the legs weigh at most a each.
weight_bounded : (p : Problem) (least : List ℕ) (a : ℕ) → ((j : ℕ) → j < length p.graph.legs → get_or least (leg_at p.graph j).tail 0 ≤ a) → (j : ℕ) (legs : List Leg) → LegsFrom p.graph j legs → weight least legs ≤ length legs * a
weight_bounded p least a h j [] q = omega arith
weight_bounded p least a h j (leg ∷ more) q =
    let here : get_or least leg.tail 0 ≤ a = rw q.1 (h j q.0) in
    omega (arith, here, weight_bounded p least a h (suc j) more q.2)

module _ {t : Terms} {p : Problem} {w : State} (acc : Accepted t p w) where
  -- Open: every record is one more than the limit, so that nothing is dominated yet.
  first_record : (v : ℕ) → v < p.sites → get_or (bare p w).least v 0 ≡ p.limit + 1
  first_record v b =
      get_or-append (replicate p.sites (p.limit + 1)) (drop p.sites w.least) 0 v (omega (arith, length-replicate p.sites (p.limit + 1)))
      ∙ get_or-replicate p.sites v (p.limit + 1) 0 b

  -- With no label yet, whatever became of the start is all there is to say.
  bare_fair : FairIn p (bare p w) []
  bare_fair = record {
    sound = λ e at. absurd (has_none e at);
    rising = rising_none;
    ranked = λ x at. absurd (has_none x at);
    order = λ x at. absurd (has_none x at);
    due = λ v d b h q. absurd (omega (arith, h, q, first_record v b));
  }

  bare_weight : weight (bare p w).least p.graph.legs ≤ length p.graph.legs * (p.limit + 1)
  bare_weight =
      weight_bounded p (bare p w).least (p.limit + 1)
      (λ j b. omega (arith, first_record (leg_at p.graph j).tail (ranges p.sites (leg_at p.graph j) (acc.legs_in_range j b)).tail)) 0 p.graph.legs (all_legs p.graph)

  bare_invariant : HandledIn p (bare p w) [] p.start nothing → Invariant p [] 0 (bare p w)
  bare_invariant h = record {
    chained = λ i b. absurd (omega arith);
    fits = omega arith;
    standing = record {
      done = [];
      progress = record { fair = bare_fair; closed = λ x at. absurd (has_none x at); begun = h };
      listed = λ x at. absurd (has_none x at);
      lowered = λ o at. absurd (has_none o at);
      taken = refl;
      weighed = omega (arith, bare_weight);
    };
  }

  -- With label 0, the start waits in the bag.
  write_invariant : (h : Bound) → p.at p.start ≡ Some h → h.delay ≤ p.limit → Invariant p [] 0 (write (estimated p.graph (start_label p) h) (bare p w))
  write_invariant h e q =
      let first = entry_of 0 (estimated p.graph (start_label p) h) in
      let is : label_at (set w.labels 0 (start_label p)) 0 ≡ start_label p = get_or-set_same w.labels 0 (start_label p) no_label acc.some_label in
      let ranked : Ranked p p.start 0 (p.graph.join 0 h.cost) = record { bound = h; known = e; cost_small = omega arith; bound_small = acc.start_estimate_fits h e; estimate = refl } in
      record {
        chained = chained_more p w.labels 0 (start_label p) acc.some_label (λ i b. absurd (omega arith)) (record { number = refl; site = refl; mark = refl });
        fits = omega (arith, length-set w.labels 0 (start_label p), acc.some_label);
        standing = record {
          done = [];
          progress = record {
            fair = write_fair p (estimated p.graph (start_label p) h) (bare p w) [] acc.some_label ranked (omega arith) acc.start_is_site (λ x at. absurd (has_none x at)) bare_fair;
            closed = λ x at. absurd (has_none x at);
            begun = waiting first (has_insert_new first []) (omega arith) (ap (λ (z : Label). z.site) is) (covers_itself nothing);
          };
          listed = λ x at. absurd (has_none x at);
          lowered = λ o at. absurd (has_none o at);
          taken = omega (arith, length_insert first []);
          weighed = omega (arith, bare_weight);
        };
      }

  -- Label 0 is left out exactly where the start is hopeless.
  fit_invariant : (h : Bound) → p.at p.start ≡ Some h → (b : Bool) → leb h.delay p.limit ≡ b → Invariant p [] 0 (open_fit p w h b)
  fit_invariant h e false f = bare_invariant (hopeless (late_hopeless acc p.start nothing h (omega arith) e (omega (arith, leb-false h.delay p.limit f))))
  fit_invariant h e true f = write_invariant h e (leb-true h.delay p.limit f)

  pub open_invariant : (o : Option Bound) → p.at p.start ≡ o → Invariant p [] 0 (open_at p w o)
  open_invariant None e = bare_invariant (hopeless (cut_off_hopeless acc p.start nothing (omega arith) e))
  open_invariant (Some h) e = fit_invariant h e (leb h.delay p.limit) refl
