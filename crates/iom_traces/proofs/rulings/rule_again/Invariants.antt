use Rattle.std.proofs.Common.{◌-◌, ◌≤◌, replicate}
use Rattle.iom_tool.specs.Parsed.{step_of}
use Rattle.iom_traces.proofs.Passed.{Leads}
use Rattle.iom_traces.proofs.rulings.rule_again.Given as goal

abbrev pub invariant-loop-turn : goal.invariant-loop-turn
invariant-loop-turn l = record {
  within : l._turn ≤ l.most;
  left : Leads l.hides l.initial.judge (replicate l.most (step_of l.actor)) l.judge (replicate (l.most - l._turn) (step_of l.actor));
}
