-- The whole tables, from the parts that are settled. Assumes nothing.
use Rattle.std.proofs.Common.{◌≡◌, ℕ, ◌<◌, ◌≤◌, true, List, ◌++◌, length, get_or, take, sym, ◌∙◌, subst, subst₂, arith, length-take-le}
use borrow.Rule.Slice.PartMut.{post_of}
use Rattle.std.proofs.lemmas.List.{get_or_append_left, length-append}
use Rattle.std.proofs.lemmas.Slice.{drop-put_mid}
use Rattle.network.specs.declared.legs.Leg.{Leg}
use Rattle.network.specs.declared.legs.Network.{Network}
use Rattle.network.specs.Legs.{leg_in_range}
use Rattle.network.specs.Tariffs.{Terms, Lawful}
use Rattle.network.specs.Walks.{graph, no_leg}
use Rattle.network.specs.Checks.{legs_of}
use Rattle.network.specs.Estimates.{tables_at, LawfulTowards}
use Rattle.network.proofs.Walking.{network_regular}
use Rattle.reach.specs.Reaches.{Nearest, Written, Between}
use Rattle.reach.proofs.Refusing.{Accepted}
use Rattle.reach.proofs.Estimating.{nearest_is_lawful, estimate_is_between}

module _ (net : Network) (table : List Leg) (goal : ℕ) (costs delays : List ℕ) (a : Accepted net table goal (length costs) (length delays)) where
  abbrev n : ℕ
  n = net.sites

  -- what the parts of the tables have
  pub parts_long : length (take n delays) ≡ length (take n costs)
  parts_long = length-take-le n delays a.delays_hold ∙ sym (length-take-le n costs a.costs_hold)

  pub parts_few : length (take n costs) ≤ 1024
  parts_few = omega (arith, length-take-le n costs a.costs_hold, a.sound.few_sites)

  pub parts_goal : goal < length (take n costs)
  parts_goal = omega (arith, length-take-le n costs a.costs_hold, a.goal_is_site)

  module _ (legs : List Leg) (front : legs ≡ legs_of net table) where
    pub parts_ranges : (j : ℕ) → j < length legs → leg_in_range (length (take n costs)) (get_or legs j no_leg) ≡ true
    parts_ranges =
        let P : ℕ → List Leg → Type 0 = λ k ls. (j : ℕ) → j < length ls → leg_in_range k (get_or ls j no_leg) ≡ true in
        subst₂ P (sym (length-take-le n costs a.costs_hold)) (sym front) (λ j h. a.sound.in_range j no_leg h)

    -- what they give the whole tables, once they hold xs and ys
    module _ (t : Terms) (xs ys : List ℕ) (lx : length xs ≡ length (take n costs)) (ly : length ys ≡ length (take n delays))
        (near : (u : ℕ) → u < length (take n costs) → Nearest (graph t legs) u goal (get_or xs u 0) (get_or ys u 0)) where
      abbrev costs' : List ℕ
      costs' = xs ++ post_of 0 n costs

      abbrev delays' : List ℕ
      delays' = ys ++ post_of 0 n delays

      long_costs : length xs ≡ n
      long_costs = lx ∙ length-take-le n costs a.costs_hold

      long_delays : length ys ≡ n
      long_delays = ly ∙ length-take-le n delays a.delays_hold

      nearest : (u : ℕ) → u < n → Nearest (graph t (legs_of net table)) u goal (get_or costs' u 0) (get_or delays' u 0)
      nearest u h =
          let A : List Leg → Type 0 = λ ls. Nearest (graph t ls) u goal (get_or xs u 0) (get_or ys u 0) in
          let ec = get_or_append_left xs (post_of 0 n costs) 0 u (omega (arith, long_costs)) in
          let ed = get_or_append_left ys (post_of 0 n delays) 0 u (omega (arith, long_delays)) in
          subst₂ (Nearest (graph t (legs_of net table)) u goal) (sym ec) (sym ed) (subst A front (near u (omega (arith, length-take-le n costs a.costs_hold))))

      pub tables_written : Written (graph t (legs_of net table)) n goal costs delays costs' delays'
      tables_written = record {
        nearest = nearest;
        other_costs = drop-put_mid 0 n costs xs n (omega arith) (omega arith) (omega (arith, long_costs));
        other_delays = drop-put_mid 0 n delays ys n (omega arith) (omega arith) (omega (arith, long_delays));
      }

      pub tables_lawful : Lawful t → LawfulTowards (graph t (legs_of net table)) (tables_at costs' delays') goal
      tables_lawful lawful =
          nearest_is_lawful (graph t (legs_of net table)) n goal (network_regular t net table lawful a.sound) costs' delays' nearest
          (omega (arith, length-append xs (post_of 0 n costs), long_costs)) (omega (arith, length-append ys (post_of 0 n delays), long_delays)) a.goal_is_site

      pub tables_least : (u : ℕ) → u < n → Between (graph t (legs_of net table)) u goal (tables_at costs' delays' u)
      tables_least u h =
          estimate_is_between (graph t (legs_of net table)) u goal costs' delays'
          (omega (arith, length-append xs (post_of 0 n costs), long_costs)) (omega (arith, length-append ys (post_of 0 n delays), long_delays)) (nearest u h)
