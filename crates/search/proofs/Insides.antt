-- The tests whether a number leads outside its table. Assumes nothing.
use Rattle.std.proofs.Common.{◌≡◌, ℕ, ◌<◌, ◌≤◌, Bool, true, cond, eqb, List, [], ◌∷◌, length, take, sym, refl, arith}
use Rattle.std.specs.Bool.{then_some}
use Rattle.std.specs.List.{list_all}
use Rattle.std.proofs.lemmas.Bool.Decides.{nat_tests}
use Rattle.std.proofs.lemmas.Bool.{and_parts, and_from}
use Rattle.std.proofs.lemmas.List.{get_or-take, length-take}
use Rattle.network.specs.declared.legs.Leg.{Leg}
use Rattle.network.specs.declared.legs.Network.{Network}
use Rattle.network.specs.Checks.{legs_of}
use Rattle.worksheet.specs.declared.records.Label.{Label}
use Rattle.worksheet.specs.Problem.{is_whole}
use Rattle.worksheet.specs.Steps.{label_at, leads_inside, leg_inside, label_inside}
use Rattle.search.specs.Parts.{all_inside}

-- where all legs are inside, so are those from one site
weaker : (b x : Bool) → x ≡ true → cond b x true ≡ true
weaker b x h = grind arith

all_from_site : (records site : ℕ) (legs : List Leg) → list_all (leads_inside records) legs ≡ true → list_all (leg_inside records site) legs ≡ true
all_from_site records site [] h = refl
all_from_site records site (leg ∷ more) h =
    let parts = and_parts _ _ h in
    and_from _ _ (weaker (eqb leg.tail site) (leads_inside records leg) parts.0) (all_from_site records site more parts.1)

-- so that one answer about all legs serves every label
pub inside_with_all : (records site : ℕ) (net : Network) (table : List Leg) → true ≡ all_inside records net table → true ≡ list_all (leg_inside records site) (legs_of net table)
inside_with_all records site net table all = sym (all_from_site records site (legs_of net table) (and_parts _ _ (sym all)).1)

-- the label that is answered, by what the code asks of it
pub inside_by : (records : ℕ) (net : Network) (table : List Leg) (count : ℕ) (labels front : List Label) (i : ℕ) (from : Label) (b : Bool)
    → front ≡ take count labels → i < length front → from ≡ label_at front i → from.site < records → net.legs ≤ length table → b ≡ list_all (leg_inside records from.site) (legs_of net table)
    → then_some b from ≡ label_inside records (is_whole net table) (legs_of net table) count labels i
inside_by records net table count labels front i from b recorded written same sited whole legs = grind (arith, nat_tests, length-take, get_or-take)
