-- An estimate that cuts off a region which no leg leaves is lawful: leg by leg, by whether its two ends are in the region.
use Rattle.std.specs.Prelude.{◌≡◌, Bool, true, false, None, Some, refl, if◌then◌else◌}
use Rattle.std.proofs.Common.{ap, arith}
use Rattle.std.proofs.lemmas.Bool.{false≢true}
use Rattle.std.proofs.lemmas.Bool.Decides.{nat_tests}
use Rattle.network.specs.declared.legs.Leg.{Leg}
use Rattle.network.specs.Estimates.{nothing_left, ends_keep_rules}
use Rattle.network.specs.Walks.{Graph, leg_at}
use Rattle.own_parts.specs.Parts.{EnclosedRegionIsLawful}

-- the rules of a leg, by whether its tail and its head are in the region
rules_by_ends : (g : Graph) (leg : Leg) (t h : Bool) → (t ≡ true → h ≡ true)
    → ends_keep_rules g leg (if t then None else Some nothing_left) (if h then None else Some nothing_left) ≡ true
rules_by_ends g leg true true k = refl
rules_by_ends g leg true false k = absurd (false≢true (k refl))
rules_by_ends g leg false true k = refl
rules_by_ends g leg false false k = grind (arith, nat_tests)

pub enclosed_region_is_lawful : EnclosedRegionIsLawful
enclosed_region_is_lawful g region goal e = record {
  goal_is_reached = ap (λ b. if b then None else Some nothing_left) e.goal_is_outside;
  legs_keep_rules = λ j here. rules_by_ends g (leg_at g j) _ _ (e.no_leg_leads_out j here);
}
