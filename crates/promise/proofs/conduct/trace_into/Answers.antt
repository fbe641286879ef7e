use Rattle.std.proofs.Common.{Ok, ◌∙◌, arith}
use Rattle.promise.proofs.Conducting.{front_of}
use Rattle.promise.proofs.conduct.trace_into.Goals as goal

pub returns : goal.returns
returns c = record {
  before = c.deref_mut.result.now;
  after = c.trace.new.buffer;
  answer = Ok c.in_ok-count.count;
  size = omega (arith, c.deref_mut.ensures.len);
  writes = c.in_ok-count.ensures;
  gives = c.truncate.ensures.items ∙ front_of _ c.in_ok-count.count c.args.buffer.len c.trace.new.buffer c.args.buffer.items (omega arith) (omega (arith, c.trace.auto.buffer, c.deref_mut.ensures.len));
}
