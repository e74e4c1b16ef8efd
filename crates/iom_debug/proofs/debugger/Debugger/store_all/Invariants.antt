use Rattle.std.proofs.Common.{◌≡◌, ◌+◌, ◌*◌, drop}
use Rattle.iom_tool.specs.Script.{stores_at}
use Rattle.iom_debug.specs.Desks.{desk_of, names_of}
use Rattle.iom_debug.proofs.Remaining.{Left}
use Rattle.iom_debug.proofs.debugger.Debugger.store_all.Given as goal

abbrev pub invariant-loop-i : goal.invariant-loop-i
invariant-loop-i l = record {
  same : names_of l.self ≡ names_of l.initial.self;
  left : Left (desk_of l.initial.self) l.number (stores_at l.addr l.words) (desk_of l.self)
      (stores_at (l.addr + 8 * l.i) (drop l.i l.words)) l.i;
}
