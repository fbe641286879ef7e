-- What an accepted open vouches for. Assumes nothing.
use Rattle.std.proofs.Common.{◌≡◌, ℕ, ◌<◌, ◌≤◌, Bool, true, eqb, ltb, leb, length, get_or, Some, None, Option, sym, refl, ap, ap₂, arith}
use Rattle.std.proofs.lemmas.Bool.{and_parts, ltb-true, leb-true, le-leb, eqb-true}
use Rattle.network.specs.declared.estimates.Bound.{Bound}
use Rattle.network.specs.declared.refusals.Refusal.{Refusal}
use Rattle.network.specs.declared.refusals.Refusal.TheVariants as why
use Rattle.network.specs.Checks.{legs_of, unless, unless_leg}
use Rattle.network.specs.Estimates.{nothing_left}
use Rattle.network.specs.Tariffs.{Lawful}
use Rattle.network.specs.Walks.{no_leg}
use Rattle.network.proofs.Checking.{Sound, accepted}
use Rattle.network.proofs.Failing.{all_pass}
use Rattle.worksheet.specs.declared.records.Query.{Query}
use Rattle.worksheet.specs.Problem.{Setting, problem}
use Rattle.worksheet.specs.Steps.{State}
use Rattle.worksheet.specs.Series.{Accepted}
use Rattle.search.specs.Calls.{CostsFit, limit_fits, ends_fit, tables_fit, is_reached, leg_lawful, open_refusal}

-- A test that is passed, and the rest of the refusal after it.
passed : (b : Bool) (w : Refusal) (rest : Option Refusal) → unless b w rest ≡ None → (b ≡ true) × (rest ≡ None)
passed b w rest e = (grind arith, grind arith)

no_leg_fails : (w : ℕ → Refusal) (o : Option ℕ) → unless_leg w o None ≡ None → None ≡ o
no_leg_fails w o e = grind arith

-- The tests of an open, passed.
pub record Passed (s : Setting) (q : Query) : Type 0 where
  pub network : Sound s.net s.table
  pub ends : ends_fit s.net q ≡ true
  pub tables : tables_fit s.net.sites s.labels s.records s.capacity ≡ true
  pub goal : is_reached (s.at q.goal) ≡ true
  pub legs : (j : ℕ) → j < length (legs_of s.net s.table) → leg_lawful s (get_or (legs_of s.net s.table) j no_leg) ≡ true

pub all_passed : (s : Setting) (q : Query) → open_refusal s q ≡ None → Passed s q
unfolding open_refusal
all_passed s q e =
    let size = passed (limit_fits q) why.Size _ e in
    let network = accepted s.net s.table _ (sym size.1) in
    let ends = passed (ends_fit s.net q) why.Site _ (sym network.1) in
    let tables = passed (tables_fit s.net.sites s.labels s.records s.capacity) why.Room _ ends.1 in
    let goal = passed (is_reached (s.at q.goal)) why.GoalEstimate _ tables.1 in
    record {
      network = network.0;
      ends = ends.0;
      tables = tables.0;
      goal = goal.0;
      legs = λ j b. all_pass (leg_lawful s) (legs_of s.net s.table) (no_leg_fails why.LegEstimate _ goal.1) j no_leg b;
    }

-- The goal has the pair 0 and 0.
reached : (o : Option Bound) → is_reached o ≡ true → o ≡ Some nothing_left
reached None e = cc
reached (Some b) e =
    let parts = and_parts (eqb b.cost 0) (eqb b.delay 0) e in
    ap (λ (x : Bound). Some x) (ap₂ (λ c d. record { cost = c; delay = d }) (eqb-true b.cost 0 parts.0) (eqb-true b.delay 0 parts.1))

-- The tables have room for a label, an entry, and a least-delay record for each site.
record Roomy (sites labels records capacity : ℕ) : Type 0 where
  label : 1 ≤ labels
  entry : 1 ≤ capacity
  sites_have_records : sites ≤ records

roomy : (sites labels records capacity : ℕ) → tables_fit sites labels records capacity ≡ true → Roomy sites labels records capacity
roomy sites labels records capacity e =
    let some = and_parts (leb 1 labels) _ e in
    let few = and_parts (leb labels 65536) _ some.1 in
    let room = and_parts (leb 1 capacity) (leb sites records) few.1 in
    record { label = leb-true _ _ some.0; entry = leb-true _ _ room.0; sites_have_records = leb-true _ _ room.1 }

pub some_entry : (s : Setting) (q : Query) → open_refusal s q ≡ None → 1 ≤ s.capacity
some_entry s q e = (roomy s.net.sites s.labels s.records s.capacity (all_passed s q e).tables).entry

-- With as many label records as the setting says, what an accepted search starts from.
pub open_accepted : (s : Setting) (q : Query) (w : State) → Lawful s.terms → open_refusal s q ≡ None → CostsFit (problem s q) → length w.labels ≡ s.labels → Accepted s.terms (problem s q) w
open_accepted s q w lawful e fits labels =
    let tests = all_passed s q e in
    let ends = and_parts (ltb q.start s.net.sites) (ltb q.goal s.net.sites) tests.ends in
    let room = roomy s.net.sites s.labels s.records s.capacity tests.tables in
    record {
      tariff_is_lawful = lawful;
      prices = λ leg. refl;
      joins = λ a b. refl;
      estimate_is_lawful = record {
        goal_is_reached = reached (s.at q.goal) tests.goal;
        legs_keep_rules = tests.legs;
      };
      start_estimate_fits = fits.at_start;
      head_estimates_fit = fits.at_heads;
      start_is_site = ltb-true _ _ ends.0;
      legs_in_range = λ j b. tests.network.in_range j no_leg b;
      sites_have_records = room.sites_have_records;
      table_is_whole = le-leb _ _ tests.network.stand;
      some_label = omega (arith, room.label, labels);
    }
