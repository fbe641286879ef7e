use Rattle.std.proofs.Common.{◌≡◌, ◌∙◌, take, ap, sym, rules, tests, arith}
use native.Mathlib.Nat.{sub-zero}
use Rattle.std.specs.List.{list_all}
use Rattle.std.proofs.lemmas.Iterator.{YieldsList-from_slice}
use Rattle.std.proofs.lemmas.Iterator.Search.{all_from_yields_List}
use Rattle.network.specs.Checks.{legs_of}
use Rattle.worksheet.specs.Steps.{no_label, leg_inside}
use Rattle.search.proofs.Insides.{inside_with_all, inside_by}
use Rattle.search.proofs.record.Search.label_inside.Goals as goal
use Rattle.search.proofs.record.Search.label_inside.Goals.{then-sound, else-sound}

pub returns : goal.returns
returns g c =
    let records = c.args.records in
    let net = c.args.lent.now.network.now in
    let table = c.args.lent.now.table.now in
    let from = c.in_ok-label.field-0.now in
    let found = c.in_ok-label.ensures.lookup.3 in
    let front = c.in_ok-legs.ensures.lookup.0 in
    let asked : c.if-sound.then_some ≡ list_all (leg_inside records from.site) (legs_of net table) =
    elim c.if-sound.branch [
      | then-sound w ↦ w.then_some-is ∙ w.if-sound.true ∙ inside_with_all records from.site net table (sym w.if-sound.true ∙ c.requires)
      | else-sound w ↦
          let legs = front.2 ∙ ap (λ k. take k table) (sub-zero c.from.result ∙ c.from.ensures) in
          w.then_some-is ∙ all_from_yields_List (leg_inside records from.site) _ _ w.all.result w.all.ensures.ran (YieldsList-from_slice (legs_of net table) (w.iter.ensures.rest ∙ legs)) (λ x b q k. search (rules, tests))
    ]
    in
    c.then_some.ensures ∙ inside_by records net table _ _ _ _ from _ c.recorded.ensures found.0 (found.1 no_label) (omega (arith, c.if-from-records.false, c.from-2.ensures)) (omega (arith, c.from.ensures, front.1)) asked
