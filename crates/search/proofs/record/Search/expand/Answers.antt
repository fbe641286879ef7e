use Rattle.std.proofs.Common.{◌*◌, ap, ◌∙◌, arith}
use Rattle.std.specs.Prelude.{length}
use Rattle.std.specs.List.{list_all}
use Rattle.std.proofs.lemmas.Grind.{common_steps}
use Rattle.network.specs.Checks.{legs_of}
use Rattle.worksheet.specs.Steps.{leg_inside}
use Rattle.search.proofs.Trying.{closed, passed, group_is, group_passes, group_tried}
use Rattle.search.proofs.record.Search.expand.Goals as goal
use Rattle.search.proofs.record.Search.expand.Goals.{then-leaves+in_ok-try_each, else-leaves}

pub try_each-requires-clause-inside : goal.try_each-requires-clause-inside
try_each-requires-clause-inside g c =
    let legs = legs_of c.args.lent.now.network.now c.args.lent.now.table.now in
    let inside = leg_inside (length c.args.least.now) c.args.from.label.site in
    let group = group_is _ _ legs c.loop-i.i c.legs_in.ensures.legs c.as_chunks.ensures.front c.as_chunks.ensures.front_len c.loop-i-test.true in
    ap (list_all inside) group.0 ∙ group_passes inside 16 (c.loop-i.i * 16) legs c.requires.inside

pub returns-in_err-try_each-clause-after : goal.returns-in_err-try_each-clause-after
returns-in_err-try_each-clause-after g c =
    let legs = legs_of c.args.lent.now.network.now c.args.lent.now.table.now in
    let group = group_is _ _ legs c.loop-i.i c.legs_in.ensures.legs c.as_chunks.ensures.front c.as_chunks.ensures.front_len c.loop-i-test.true in
    let tried = group_tried _ _ _ _ _ legs _ _ c.loop-i.i c.loop-i.invariant group.0 group.1 in
    grind (arith, common_steps, tried, closed)

pub loop-i-preserved : goal.loop-i-preserved
loop-i-preserved g c =
    let legs = legs_of c.args.lent.now.network.now c.args.lent.now.table.now in
    let group = group_is _ _ legs c.loop-i.i c.legs_in.ensures.legs c.as_chunks.ensures.front c.as_chunks.ensures.front_len c.loop-i-test.true in
    let tried = group_tried _ _ _ _ _ legs _ _ c.loop-i.i c.loop-i.invariant group.0 group.1 in
    elim c.if-leaves.branch [
      | then-leaves+in_ok-try_each w ↦ grind (arith, common_steps, tried)
      | else-leaves w ↦ grind (arith, common_steps, tried, passed)
    ]
