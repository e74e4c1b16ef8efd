use Rattle.std.proofs.Common.{◌≡◌, ◌+◌, ◌-◌, ◌^◌, ◌≤◌, ◌++◌, ℕ, List, length, take, false}
use Rattle.iom_reader.specs.Answering.{Progress, progress}
use Rattle.iom_reader.specs.Running.{Fed}
use Rattle.iom_reader.proofs.rest.Rest.lines_done.Given as goal

-- what was fed before stays fed, and the lines of the part so far with it
abbrev pub invariant-loop-at : goal.invariant-loop-at
invariant-loop-at g l = record {
  inside : l.from ≤ length l.part;
  fed : (start : Progress g.A.Answerer.answering.State) (text : List ℕ)
      → Fed g.A.Answerer.answering start (progress (g.W.Write.contents l.initial.writer.inner.now) (g.A.Answerer.state l.initial.answerer))
      l.initial.self.line.items l.initial.self.lines (length text) text
      → length text + length l.part ≤ 2 ^ 26
      → Fed g.A.Answerer.answering start (progress (g.W.Write.contents l.writer.inner.now) (g.A.Answerer.state l.answerer))
      l.self.line.items l.self.lines (length (text ++ take l.from l.part)) (text ++ take l.from l.part);
  bytes : l.self.bytes ≡ l.initial.self.bytes;
  can : l.writer.failed ≡ false;
  same_writer : l.writer.inner.ghost_name ≡ l.initial.writer.inner.ghost_name;
  names : g.A.Answerer.names l.answerer ≡ g.A.Answerer.names l.initial.answerer;
}

abbrev pub decreases-loop-at : goal.decreases-loop-at
decreases-loop-at g l = length l.part - l.from
