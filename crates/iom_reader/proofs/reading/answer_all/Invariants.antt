use Rattle.std.proofs.Common.{◌≡◌, false}
use Rattle.iom_reader.specs.Answering.{progress}
use Rattle.iom_reader.proofs.Runs.{IsRunning}
use Rattle.iom_reader.proofs.reading.answer_all.Given as goal

abbrev pub invariant-loop-turn : goal.invariant-loop-turn
invariant-loop-turn g l = record {
  runs : IsRunning g.A.Answerer.answering (g.R.Read.remaining l.initial.reader.inner.now) (g.R.Read.remaining l.reader.inner.now)
      (progress (g.W.Write.contents l.initial.writer.inner.now) (g.A.Answerer.state l.initial.answerer))
      (progress (g.W.Write.contents l.writer.inner.now) (g.A.Answerer.state l.answerer))
      l.rest.line.items l.rest.lines l.rest.bytes l._turn;
  can_read : l.reader.failed ≡ false;
  can_write : l.writer.failed ≡ false;
  same_reader : l.reader.inner.ghost_name ≡ l.initial.reader.inner.ghost_name;
  same_writer : l.writer.inner.ghost_name ≡ l.initial.writer.inner.ghost_name;
  names : g.A.Answerer.names l.answerer ≡ g.A.Answerer.names l.initial.answerer;
}
