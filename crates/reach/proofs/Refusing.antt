-- The ways through the tests of a reach, and what an accepted one has. Assumes nothing.
use Rattle.std.proofs.Common.{◌≡◌, ℕ, ◌<◌, ◌≤◌, Bool, true, ltb, List, None, Ok, arith}
use Rattle.std.proofs.lemmas.Bool.{ltb-true}
use Rattle.std.proofs.lemmas.Bool.Decides.{nat_tests}
use Rattle.network.specs.declared.legs.Leg.{Leg}
use Rattle.network.specs.declared.legs.Network.{Network}
use Rattle.network.specs.declared.refusals.Refusal.TheVariants as why
use Rattle.network.specs.Checks.{answer_by, unless}
use Rattle.network.proofs.Checking.{Sound, not_refused, accepted}
use Rattle.reach.specs.Reaches.{tables_hold, reach_refusal}

-- what an accepted reach has
pub record Accepted (net : Network) (table : List Leg) (goal costs delays : ℕ) : Type 0 where
  pub sound : Sound net table
  pub goal_is_site : goal < net.sites
  pub costs_hold : net.sites ≤ costs
  pub delays_hold : net.sites ≤ delays

passed : (site room : Bool) → None ≡ unless site why.Site (unless room why.Room None) → (site ≡ true) × (room ≡ true)
passed site room e = (grind arith, grind arith)

pub reach_accepted : (net : Network) (table : List Leg) (goal costs delays : ℕ) → Ok tt ≡ answer_by (reach_refusal net table goal costs delays) → Accepted net table goal costs delays
reach_accepted net table goal costs delays e =
    let a = accepted net table _ (not_refused _ e) in
    let p = passed (ltb goal net.sites) (tables_hold net.sites costs delays) a.1 in
    let holds : tables_hold net.sites costs delays ≡ true = p.1 in
    record {
      sound = a.0;
      goal_is_site = ltb-true goal net.sites p.0;
      costs_hold = grind (arith, nat_tests);
      delays_hold = grind (arith, nat_tests);
    }
