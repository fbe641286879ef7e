use Rattle.std.proofs.Common.{◌≤◌, length, arith}
use Rattle.search.proofs.Traces.{lay_on, lay_fits, lay_ends}
use Rattle.search.proofs.tracing.Chain.write.Goals as goal

pub overflow_sub-place : goal.overflow_sub-place
overflow_sub-place c = omega (arith, lay_fits _ _ _ _ _ _ _ _ _ c.loop-origin.invariant c.requires.long _ c.in-Some.ensures)

pub bounds-buffer-place : goal.bounds-buffer-place
bounds-buffer-place c = omega (arith, lay_fits _ _ _ _ _ _ _ _ _ c.loop-origin.invariant c.requires.long _ c.in-Some.ensures, c.loop-origin.invariant.long, c.requires.fits, c.loop-origin.auto.buffer)

pub loop-origin-smaller : goal.loop-origin-smaller
loop-origin-smaller c = omega (arith, lay_fits _ _ _ _ _ _ _ _ _ c.loop-origin.invariant c.requires.long _ c.in-Some.ensures)

pub loop-origin-preserved : goal.loop-origin-preserved
loop-origin-preserved c =
    let more = lay_fits _ _ _ _ _ _ _ _ _ c.loop-origin.invariant c.requires.long _ c.in-Some.ensures in
    let fits : c.loop-origin.place ≤ length c.loop-origin.buffer = omega (arith, c.loop-origin.invariant.long, c.requires.fits, c.loop-origin.auto.buffer) in
    lay_on _ _ _ _ _ _ _ _ _ c.loop-origin.invariant _ more fits c.in-Some.ensures _ (omega arith)

pub returns : goal.returns
returns c = lay_ends _ _ _ _ _ _ _ _ _ c.loop-origin.invariant c.requires.long c.in_default.ensures
