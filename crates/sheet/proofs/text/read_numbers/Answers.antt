use Rattle.std.proofs.Common.{◌≡◌, ◌<◌, eqb, length, get_or, None, Some, Ok, Err, ap, ◌∙◌, arith, rules, tests}
use Rattle.std.proofs.lemmas.List.{length_push}
use Rattle.std.specs.List.{count_by}
use Rattle.std.specs.Result.{result_and}
use Rattle.sheet.specs.Text.{fields, values}
use Rattle.sheet.specs.declared.text.Fault.TheVariants.{Form}
use Rattle.sheet.proofs.Cutting.{count_fields}
use Rattle.sheet.proofs.Numbering.{behind_none, walk, field_turn, field_end, step_values, step_bad, numbers_few, numbers_bad, numbers_good}
use Rattle.sheet.proofs.text.read_numbers.Goals as goal

pub returns-then-count-values-clause-answer : goal.returns-then-count-values-clause-answer
returns-then-count-values-clause-answer c =
    let n : c.count.result ≡ count_by (λ b. eqb b 44) c.args.rest.now = search rules in
    let m = count_fields c.args.rest.now in
    numbers_few _ _ (λ e. omega arith)

pub loop-i-init : goal.loop-i-init
loop-i-init c =
    let n : c.count.result ≡ count_by (λ b. eqb b 44) c.args.rest.now = search rules in
    let m = count_fields c.args.rest.now in
    (omega arith, behind_none (values (fields c.args.rest.now)))

pub returns-in_err-values-clause-answer : goal.returns-in_err-values-clause-answer
returns-in_err-values-clause-answer c =
    let v : None ≡ c.number.result = search rules in
    let p : c.from_residual.result ≡ Err Form = search rules in
    let t = field_turn _ _ _ c.args.rest.now _ c.loop-i.yielded_by c.next.ensures.steps _ c.in-Some.is
    (walk _ c.into_iter-i-iterator.ensures.into_iter_gives c.enumerate-i-items.ensures.source c.enumerate-i-items.ensures.count
    c.skip.ensures.source c.skip.ensures.count c.split.ensures.rest c.split.ensures.done c.split.ensures.closure (λ x r q k. search (rules, tests))) in
    ap (λ r. result_and r (Ok c.loop-i.values)) p
    ∙ numbers_bad _ _ c.loop-i.invariant.0 (step_bad _ _ _ _ t.0 t.2 _ c.loop-i.invariant.1 (v ∙ c.number.ensures))

-- the field of a turn
turn : (c : goal.In_ok-values) → (length c.loop-i.yielded < length (fields c.args.rest.now)) × (c.in-Some.i ≡ length c.loop-i.yielded) × (c.in-Some.field.now ≡ get_or (fields c.args.rest.now) (length c.loop-i.yielded) c.in-Some.field.now)
turn c =
    field_turn _ _ _ c.args.rest.now _ c.loop-i.yielded_by c.next.ensures.steps _ c.in-Some.is
    (walk _ c.into_iter-i-iterator.ensures.into_iter_gives c.enumerate-i-items.ensures.source c.enumerate-i-items.ensures.count
    c.skip.ensures.source c.skip.ensures.count c.split.ensures.rest c.split.ensures.done c.split.ensures.closure (λ x r q k. search (rules, tests)))

pub offset_bounds-values-i : goal.offset_bounds-values-i
offset_bounds-values-i c =
    let t = turn c in
    let lt : c.in-Some.i < length c.loop-i.values = omega (arith, t.0, t.1) in
    search rules

pub bounds-values-i : goal.bounds-values-i
bounds-values-i c = let t = turn c in omega (arith, t.0, t.1)

pub loop-i-preserved : goal.loop-i-preserved
loop-i-preserved c =
    let t = turn c in
    let v : Some c.in_ok-values.field-0 ≡ c.number.result = search rules in (
      c.loop-i.invariant.0,
      step_values _ _ _ _ t.0 t.2 _ c.loop-i.invariant.1 _ _ _ (omega (arith, t.0)) (v ∙ c.number.ensures) t.1 (length_push c.loop-i.yielded _),
    )

pub returns-clause-answer : goal.returns-clause-answer
returns-clause-answer c =
    let k = field_end _ _ _ c.args.rest.now _ c.loop-i.yielded_by c.next.ensures.steps c.in-None.is
    (walk _ c.into_iter-i-iterator.ensures.into_iter_gives c.enumerate-i-items.ensures.source c.enumerate-i-items.ensures.count
    c.skip.ensures.source c.skip.ensures.count c.split.ensures.rest c.split.ensures.done c.split.ensures.closure (λ x r q k. search (rules, tests))) in
    numbers_good _ _ _ _ c.loop-i.invariant.0 (omega arith) (omega arith) c.loop-i.invariant.1
