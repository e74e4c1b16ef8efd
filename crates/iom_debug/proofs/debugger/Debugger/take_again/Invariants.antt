use Rattle.std.proofs.Common.{◌≡◌, ◌-◌, ◌≤◌, replicate}
use Rattle.iom_tool.specs.Parsed.{step_of}
use Rattle.iom_debug.specs.Desks.{desk_of, names_of}
use Rattle.iom_debug.proofs.Remaining.{Left}
use Rattle.iom_debug.proofs.debugger.Debugger.take_again.Given as goal

abbrev pub invariant-loop-i : goal.invariant-loop-i
invariant-loop-i l = record {
  within : l.i ≤ l.most;
  same : names_of l.self ≡ names_of l.initial.self;
  left : Left (desk_of l.initial.self) l.number (replicate l.most (step_of l.actor)) (desk_of l.self)
      (replicate (l.most - l.i) (step_of l.actor)) l.i;
}
