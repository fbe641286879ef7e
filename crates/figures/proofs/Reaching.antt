-- What a reach writes over network A, from the passes over its legs. Assumes nothing.
use Rattle.std.proofs.Common.{◌≡◌, ℕ, ◌<◌, ◌≤◌, true, false, leb, List, ◌++◌, length, get_or, take, drop, set, replicate, None, Ok, sym, refl, ap, ◌∙◌, subst₂, arith}
use Rattle.std.proofs.ByRecursion.{All-get_or}
use Rattle.std.proofs.lemmas.List.{ext_get_or, get_or-take, get_or_append_left, length-take-le, take-append-drop, drop_at}
use Rattle.std.proofs.lemmas.Bool.{and_from, le-leb}
use Rattle.network.specs.contracts.tariffs.TotalFeeTariff.TheImpl.Laws as fees
use Rattle.network.specs.contracts.tariffs.WorstGradeTariff.TheImpl.Laws as grades
use Rattle.network.specs.declared.refusals.Refusal.TheVariants as why
use Rattle.network.specs.Checks.{answer_by, unless, first_failing, network_refusal}
use Rattle.network.specs.Legs.{leg_in_range, leg_delay}
use Rattle.network.specs.Tariffs.{Terms, Lawful, total_fee, worst_grade}
use Rattle.network.specs.Walks.{Graph, graph, no_leg}
use Rattle.reach.specs.Passes.{Tables, passed, changes}
use Rattle.reach.specs.Reaches.{largest_cost, largest_delay, Nearest, Written, reach_refusal}
use Rattle.reach.proofs.Records.{nearest_is_unique}
use Rattle.reach.proofs.Settling.{turn_starts, turn_keeps, turn_ends}
use Rattle.figures.specs.Figures.{network_a, legs_a, fees_to_3, grades_to_3, delays_to_3, reaches, ComesOut}

-- every leg of network A is in range
legs_in_range : (j : ℕ) → j < length legs_a → leg_in_range 4 (get_or legs_a j no_leg) ≡ true
legs_in_range j h = All-get_or (λ leg. leg_in_range 4 leg ≡ true) legs_a j no_leg h (refl, (refl, (refl, (refl, (refl, tt)))))

-- tables with a record for each site are accepted
accepted : (m n : ℕ) → 4 ≤ m → 4 ≤ n → answer_by (reach_refusal network_a legs_a 3 m n) ≡ Ok tt
unfolding network_refusal first_failing
accepted m n hm hn = ap (λ b. answer_by (unless b why.Room None)) (and_from (leb 4 m) (leb 4 n) (le-leb 4 m hm) (le-leb 4 n hn))

-- a table by its first four records
by_front : (front xs : List ℕ) → length front ≡ 4 → 4 ≤ length xs → ((u : ℕ) → u < 4 → get_or xs u 0 ≡ get_or front u 0) → xs ≡ front ++ drop 4 xs
by_front front xs four long same =
    let lt = length-take-le 4 xs long in
    sym (take-append-drop 4 xs)
    ∙ ap (λ f. f ++ drop 4 xs) (ext_get_or 0 (take 4 xs) front (lt ∙ sym four) (λ u h. let below : u < 4 = omega arith in get_or-take 4 xs u 0 below ∙ same u below))

module _ (t : Terms) (lawful : Lawful t) where
  abbrev g : Graph
  g = graph t legs_a

  few : 4 ≤ 1024
  few = omega arith

  -- the tables before the first pass, and after a pass over the tables s
  abbrev first : Tables
  first = record { costs = set (replicate 4 largest_cost) 3 0; delays = set (replicate 4 largest_delay) 3 0 }

  abbrev next : Tables → Tables
  next s = passed g legs_a s

  -- costs and delays are what the third pass leaves, and it changes nothing
  module _ (costs delays : List ℕ) (third : record { costs = costs; delays = delays } ≡ next (next (next first))) (rests : changes g legs_a (next (next first)) ≡ false) where
    nearest : (u : ℕ) → u < 4 → Nearest g u 3 (get_or costs u 0) (get_or delays u 0)
    nearest u h =
        let filled : List ℕ = replicate 4 largest_cost in
        let start = turn_starts t legs_a 4 3 lawful few legs_in_range filled refl (omega arith) (replicate 4 largest_delay) 4 refl refl refl in
        let once = turn_keeps t legs_a 4 3 lawful few legs_in_range filled refl first (next first) start refl in
        let twice = turn_keeps t legs_a 4 3 lawful few legs_in_range filled refl (next first) (next (next first)) once refl in
        turn_ends t legs_a 4 3 lawful few legs_in_range filled refl (next (next first)) (record { costs = costs; delays = delays }) twice third (sym rests) u h

    module _ (four_costs : length costs ≡ 4) (four_delays : length delays ≡ 4) (costs₀ delays₀ : List ℕ) where
      writes_these : Written g 4 3 costs₀ delays₀ (costs ++ drop 4 costs₀) (delays ++ drop 4 delays₀)
      writes_these = record {
        nearest = λ u h.
            subst₂ (λ c d. Nearest g u 3 c d)
            (sym (get_or_append_left costs (drop 4 costs₀) 0 u (omega arith))) (sym (get_or_append_left delays (drop 4 delays₀) 0 u (omega arith)))
            (nearest u h);
        other_costs = drop_at costs (drop 4 costs₀) 4 four_costs;
        other_delays = drop_at delays (drop 4 delays₀) 4 four_delays;
      }

      writes_no_other : (costs' delays' : List ℕ) → 4 ≤ length costs' → 4 ≤ length delays' → Written g 4 3 costs₀ delays₀ costs' delays'
          → (costs' ≡ costs ++ drop 4 costs₀) × (delays' ≡ delays ++ drop 4 delays₀)
      writes_no_other costs' delays' long_costs long_delays w = (
        by_front costs costs' four_costs long_costs (λ u h. (nearest_is_unique g u 3 _ _ _ _ (w.nearest u h) (nearest u h)).0) ∙ ap (λ rest. costs ++ rest) w.other_costs,
        by_front delays delays' four_delays long_delays (λ u h. (nearest_is_unique g u 3 _ _ _ _ (w.nearest u h) (nearest u h)).1) ∙ ap (λ rest. delays ++ rest) w.other_delays,
      )

    pub reach_comes_out : length costs ≡ 4 → length delays ≡ 4 → ComesOut (reaches t 3 costs delays)
    reach_comes_out four_costs four_delays costs₀ delays₀ costs' delays' long_costs long_delays as_costs as_delays = record {
      accepted = accepted (length costs₀) (length delays₀) long_costs long_delays;
      writes = (
        writes_no_other four_costs four_delays costs₀ delays₀ costs' delays' (omega arith) (omega arith),
        λ e. subst₂ (Written g 4 3 costs₀ delays₀) (sym e.0) (sym e.1) (writes_these four_costs four_delays costs₀ delays₀),
      );
    }

-- the records of network A under the two tariffs
pub fees_come_out : ComesOut (reaches total_fee 3 fees_to_3 delays_to_3)
unfolding passed changes leg_delay
fees_come_out = reach_comes_out total_fee (fees.lawful-law record {}) fees_to_3 delays_to_3 refl refl refl refl

pub grades_come_out : ComesOut (reaches worst_grade 3 grades_to_3 delays_to_3)
unfolding passed changes leg_delay
grades_come_out = reach_comes_out worst_grade (grades.lawful-law record {}) grades_to_3 delays_to_3 refl refl refl refl
