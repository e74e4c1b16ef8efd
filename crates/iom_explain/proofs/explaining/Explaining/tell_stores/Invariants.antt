use Rattle.std.proofs.Common.{◌≡◌, ◌+◌, ◌*◌, drop, false}
use Rattle.iom_tool.specs.Script.{stores_at}
use Rattle.iom_debug.specs.Desks.{names_of}
use Rattle.iom_explain.specs.Drives.{told}
use Rattle.iom_explain.proofs.Chain.{Along}
use Rattle.iom_explain.proofs.explaining.Explaining.tell_stores.Given as goal

abbrev pub invariant-loop-i : goal.invariant-loop-i
invariant-loop-i g l = record {
  can : l.writer.failed ≡ false;
  memory : l.self.teller.is_short ≡ false;
  number : l.self.number ≡ l.initial.self.number;
  only : l.self.teller.only ≡ l.initial.self.teller.only;
  same_writer : l.writer.inner.ghost_name ≡ l.initial.writer.inner.ghost_name;
  same : names_of l.self.debugger ≡ names_of l.initial.self.debugger;
  along : Along (g.W.Write.contents l.initial.writer.inner.now) (g.W.Write.contents l.writer.inner.now)
      (told l.initial.self) l.initial.self.number (stores_at l.addr l.words) (told l.self)
      (stores_at (l.addr + 8 * l.i) (drop l.i l.words)) l.i;
}
