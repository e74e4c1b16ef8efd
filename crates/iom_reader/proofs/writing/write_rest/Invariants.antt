use Rattle.std.proofs.Common.{◌≡◌, length, false}
use Rattle.iom_reader.proofs.Feeding.{Wrote}
use Rattle.iom_reader.proofs.writing.write_rest.Given as goal

abbrev pub invariant-loop-rest : goal.invariant-loop-rest
invariant-loop-rest g l = record {
  wrote : Wrote (g.W.Write.contents l.initial.writer.inner.now) (g.W.Write.contents l.writer.inner.now) l.text l.rest;
  can : l.writer.failed ≡ false;
  same_writer : l.writer.inner.ghost_name ≡ l.initial.writer.inner.ghost_name;
}

abbrev pub decreases-loop-rest : goal.decreases-loop-rest
decreases-loop-rest g l = length l.rest
