use Rattle.std.proofs.Common.{◌≡◌, ◌≤◌, false}
use Rattle.iom_debug.specs.Placed.{placed}
use Rattle.iom_check.specs.Scores.{score_of}
use Rattle.iom_check.proofs.Looks.{LooksOn}
use Rattle.iom_check.proofs.checking.Checking.look_at_places.Given as goal

abbrev pub invariant-loop-i : goal.invariant-loop-i
invariant-loop-i g l = record {
  within : l.i ≤ l.count;
  can : l.writer.failed ≡ false;
  same_writer : l.writer.inner.ghost_name ≡ l.initial.writer.inner.ghost_name;
  number : l.self.number ≡ l.initial.self.number;
  place : l.self.place ≡ l.initial.self.place;
  debugger : l.self.debugger ≡ l.initial.self.debugger;
  on : LooksOn l.initial.self.debugger.platform.now.machine l.cache (placed l.initial.self.place) (score_of l.initial.self.scoring)
      (score_of l.self.scoring) l.count l.i (g.W.Write.contents l.initial.writer.inner.now) (g.W.Write.contents l.writer.inner.now);
}
