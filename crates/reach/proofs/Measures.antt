-- How many sites are reached, and the height of the tables, which falls with each change. Assumes nothing.
use Rattle.std.proofs.Common.{◌≡◌, ℕ, ◌+◌, ◌<◌, ◌≤◌, min, cond, ltb, List, length, get_or, set, sum, count_by, ⊎_elim, arith}
use Rattle.std.proofs.lemmas.List.Sums.{sum_by-set, count_by-le-length}
use Rattle.std.proofs.lemmas.Bool.{cases_lt}
use Rattle.std.proofs.lemmas.Bool.Decides.{nat_tests}
use Rattle.reach.specs.Reaches.{largest_delay}
use Rattle.reach.specs.Passes.{Tables, lowered}

-- how many sites have a delay below the largest
pub reached_count : List ℕ → ℕ
reached_count ds = count_by (λ d. ltb d largest_delay) ds

pub reached_few : (ds : List ℕ) → reached_count ds ≤ length ds
unfolding reached_count
reached_few ds = count_by-le-length (λ d. ltb d largest_delay) ds

-- a site counts for 1 where it is reached, and for 0 elsewhere
one : ℕ → ℕ
one d = cond (ltb d largest_delay) 1 0

one_in : (d : ℕ) → d < largest_delay → one d ≡ 1
unfolding one
one_in d h = grind (arith, nat_tests)

one_out : (d : ℕ) → largest_delay ≤ d → one d ≡ 0
unfolding one
one_out d h = grind (arith, nat_tests)

reached_set : (ds : List ℕ) (i v : ℕ) → i < length ds → reached_count (set ds i v) + one (get_or ds i 0) ≡ reached_count ds + one v
unfolding one reached_count
reached_set ds i v h = sum_by-set (λ d. cond (ltb d largest_delay) 1 0) ds i v 0 h

-- a site that gets a delay below the largest is one more, if it had none
module _ (ds : List ℕ) (i v : ℕ) (within : i < length ds) (low : v < largest_delay) where
  pub reached_more : largest_delay ≤ get_or ds i 0 → reached_count (set ds i v) ≡ reached_count ds + 1
  reached_more l = omega (arith, reached_set ds i v within, one_in v low, one_out (get_or ds i 0) l)

  reached_same : get_or ds i 0 < largest_delay → reached_count (set ds i v) ≡ reached_count ds
  reached_same l = omega (arith, reached_set ds i v within, one_in v low, one_in (get_or ds i 0) l)

  pub reached_keeps : reached_count ds ≤ reached_count (set ds i v)
  reached_keeps = ⊎_elim
      (λ (l : get_or ds i 0 < largest_delay). omega (arith, reached_same l))
      (λ (l : largest_delay ≤ get_or ds i 0). omega (arith, reached_more l))
      (cases_lt (get_or ds i 0) largest_delay)

-- the sum of all records
pub height : Tables → ℕ
height t = sum t.costs + sum t.delays

sum_lowered : (xs : List ℕ) (i value : ℕ) → i < length xs → sum (lowered xs i value) + get_or xs i 0 ≡ sum xs + min (get_or xs i 0) value
sum_lowered xs i value h = sum_by-set (λ x. x) xs i (min (get_or xs i 0) value) 0 h

-- lowering a cost and a delay lowers the height by as much
pub height_lowered : (t : Tables) (i c d : ℕ) → i < length t.costs → i < length t.delays
    → height (record { costs = lowered t.costs i c; delays = lowered t.delays i d }) + get_or t.costs i 0 + get_or t.delays i 0
    ≡ height t + min (get_or t.costs i 0) c + min (get_or t.delays i 0) d
unfolding height
height_lowered t i c d hc hd = omega (arith, sum_lowered t.costs i c hc, sum_lowered t.delays i d hd)
