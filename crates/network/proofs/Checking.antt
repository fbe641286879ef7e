-- The ways through the tests of a network, and what passing them tells. Assumes nothing.
use Rattle.std.proofs.Common.{◌≡◌, ℕ, ◌<◌, ◌≤◌, Bool, true, false, List, length, get_or, Some, None, Ok, Err, Option, ap, ◌∙◌, arith}
use Rattle.std.proofs.lemmas.Bool.Decides.{nat_tests}
use Rattle.network.specs.declared.legs.Leg.{Leg}
use Rattle.network.specs.declared.legs.Network.{Network}
use Rattle.network.specs.declared.refusals.Refusal.{Refusal}
use Rattle.network.specs.declared.refusals.Refusal.TheVariants as why
use Rattle.network.specs.Legs.{leg_in_range}
use Rattle.network.specs.Checks.{answer_by, first_failing, legs_of, sizes_fit, network_refusal, unless, unless_leg}
use Rattle.network.proofs.Failing.{all_pass}

-- the ways of the code
module _ (net : Network) (table : List Leg) where
  pub refused_by_size : false ≡ sizes_fit net (length table) → Some why.Size ≡ network_refusal net table None
  unfolding network_refusal
  refused_by_size s = ap (λ b. unless b why.Size (unless_leg why.LegRange (first_failing (leg_in_range net.sites) 0 (legs_of net table)) None)) s

  pub refused_by_legs : (o : Option ℕ) → true ≡ sizes_fit net (length table) → o ≡ first_failing (leg_in_range net.sites) 0 (legs_of net table) → unless_leg why.LegRange o None ≡ network_refusal net table None
  unfolding network_refusal
  refused_by_legs o s l =
      ap (λ f. unless_leg why.LegRange f None) l ∙ ap (λ b. unless b why.Size (unless_leg why.LegRange (first_failing (leg_in_range net.sites) 0 (legs_of net table)) None)) s

-- the tests of the network come first, and what follows counts only where they pass
by_tests : (s : Bool) (f : Option ℕ) (rest : Option Refusal) (w : Refusal)
    → Some w ≡ unless s why.Size (unless_leg why.LegRange f None) → Some w ≡ unless s why.Size (unless_leg why.LegRange f rest)
by_tests s f rest w e = grind arith

past_tests : (s : Bool) (f : Option ℕ) (rest : Option Refusal)
    → None ≡ unless s why.Size (unless_leg why.LegRange f None) → rest ≡ unless s why.Size (unless_leg why.LegRange f rest)
past_tests s f rest e = grind arith

module _ (net : Network) (table : List Leg) (rest : Option Refusal) where
  pub refused_first : (w : Refusal) → Some w ≡ network_refusal net table None → Some w ≡ network_refusal net table rest
  unfolding network_refusal
  refused_first w e = by_tests (sizes_fit net (length table)) (first_failing (leg_in_range net.sites) 0 (legs_of net table)) rest w e

  pub refused_later : None ≡ network_refusal net table None → rest ≡ network_refusal net table rest
  unfolding network_refusal
  refused_later e = past_tests (sizes_fit net (length table)) (first_failing (leg_in_range net.sites) 0 (legs_of net table)) rest e

-- what an answer tells of the refusal
pub not_refused : (o : Option Refusal) → Ok tt ≡ answer_by o → None ≡ o
not_refused o e = grind arith

pub refused_by : (o : Option Refusal) (w : Refusal) → Err w ≡ answer_by o → Some w ≡ o
refused_by o w e = grind arith

-- what a network that passes has
pub record Sound (net : Network) (table : List Leg) : Type 0 where
  pub some_sites : 1 ≤ net.sites
  pub few_sites : net.sites ≤ 1024
  pub few_legs : net.legs ≤ 4096
  pub stand : net.legs ≤ length table
  pub in_range : (j : ℕ) (d : Leg) → j < length (legs_of net table) → leg_in_range net.sites (get_or (legs_of net table) j d) ≡ true

passed : (s : Bool) (f : Option ℕ) (rest : Option Refusal) → None ≡ unless s why.Size (unless_leg why.LegRange f rest) → (s ≡ true) × (None ≡ f) × (None ≡ rest)
passed s f rest e = (grind arith, grind arith, grind arith)

pub accepted : (net : Network) (table : List Leg) (rest : Option Refusal) → None ≡ network_refusal net table rest → Sound net table × (None ≡ rest)
unfolding network_refusal
accepted net table rest e =
    let p = passed (sizes_fit net (length table)) (first_failing (leg_in_range net.sites) 0 (legs_of net table)) rest e in
    let s : sizes_fit net (length table) ≡ true = p.0 in (
      record {
        some_sites = grind (arith, nat_tests);
        few_sites = grind (arith, nat_tests);
        few_legs = grind (arith, nat_tests);
        stand = grind (arith, nat_tests);
        in_range = all_pass (leg_in_range net.sites) (legs_of net table) p.1;
      },
      p.2,
    )

-- The tests of a network and what follows them, one after the other.
pub ruleset test_by_test = (nat_tests, refused_first, refused_later)
