use Rattle.std.proofs.Common.{◌≡◌, false}
use Rattle.iom_debug.specs.Desks.{desk_of}
use Rattle.iom_debug.specs.Placed.{placed}
use Rattle.iom_check.specs.Checking.{places_by}
use Rattle.iom_check.specs.Scores.{score_of}
use Rattle.iom_check.proofs.Owed.{TellsOn}
use Rattle.iom_check.proofs.checking.Checking.tell_all.Given as goal

abbrev pub invariant-loop-each : goal.invariant-loop-each
invariant-loop-each g l = record {
  can : l.writer.failed ≡ false;
  same_writer : l.writer.inner.ghost_name ≡ l.initial.writer.inner.ghost_name;
  number : l.self.number ≡ l.initial.self.number;
  place : l.self.place ≡ l.initial.self.place;
  debugger : l.self.debugger ≡ l.initial.self.debugger;
  on : TellsOn (places_by (desk_of l.initial.self.debugger)) l.initial.self.debugger.reasons.now.last_invalidation (placed l.initial.self.place) l.owed (score_of l.initial.self.scoring) (score_of l.self.scoring) l.each-index
      (g.W.Write.contents l.initial.writer.inner.now) (g.W.Write.contents l.writer.inner.now);
}
