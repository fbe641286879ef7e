use Rattle.std.proofs.Common.{ap}
use Rattle.batch.proofs.Reading.{answered}
use Rattle.batch.proofs.run.Goals as goal

pub returns : goal.returns
returns g c = record {
  answered = answered _ _ _ _ _ _ (ap g.R.Read.remaining c.take.ensures.inner) c.take.ensures.limit c.new-sheet.ensures.items c.deref.ensures.value c.in_ok-read_to_end.ensures.bytes _ _ _ c.in_ok-report.ensures c.deref-2.ensures.value _ _ c.in_ok-write_all.ensures.bytes;
}
