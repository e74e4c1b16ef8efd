use Rattle.std.proofs.Common.{◌+◌, ◌*◌, drop}
use Rattle.iom_tool.specs.Script.{stores_at}
use Rattle.iom_traces.proofs.Passed.{Leads}
use Rattle.iom_traces.proofs.rulings.rule_stores.Given as goal

abbrev pub invariant-loop-i : goal.invariant-loop-i
invariant-loop-i l = Leads l.hides l.initial.judge (stores_at l.addr l.words) l.judge (stores_at (l.addr + 8 * l.i) (drop l.i l.words))
