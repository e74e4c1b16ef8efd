use Rattle.std.proofs.Common.{◌≡◌, ◌-◌, ◌≤◌, false, replicate}
use Rattle.iom_tool.specs.Parsed.{step_of}
use Rattle.iom_debug.specs.Desks.{names_of}
use Rattle.iom_explain.specs.Drives.{told}
use Rattle.iom_explain.proofs.Chain.{Along}
use Rattle.iom_explain.proofs.explaining.Explaining.tell_again.Given as goal

abbrev pub invariant-loop-i : goal.invariant-loop-i
invariant-loop-i g l = record {
  within : l.i ≤ l.most;
  can : l.writer.failed ≡ false;
  memory : l.self.teller.is_short ≡ false;
  number : l.self.number ≡ l.initial.self.number;
  only : l.self.teller.only ≡ l.initial.self.teller.only;
  same_writer : l.writer.inner.ghost_name ≡ l.initial.writer.inner.ghost_name;
  same : names_of l.self.debugger ≡ names_of l.initial.self.debugger;
  along : Along (g.W.Write.contents l.initial.writer.inner.now) (g.W.Write.contents l.writer.inner.now)
      (told l.initial.self) l.initial.self.number (replicate l.most (step_of l.actor)) (told l.self)
      (replicate (l.most - l.i) (step_of l.actor)) l.i;
}
