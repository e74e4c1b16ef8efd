use Rattle.std.proofs.Common.{◌∙◌, Option, ap}
use Rattle.iom_core.specs.State.{State}
use Rattle.iom_core.specs.Table.{executed}
use Rattle.iom_held.specs.Kept.{left_by}
use Rattle.iom_queue.specs.declared.command.Command.{Command}
use Rattle.iom_judge.proofs.holding.hold.Goals as goal

pub returns-clause-holds : goal.returns-clause-holds
returns-clause-holds c = record {
  mid = c.put_in.new.held;
  reads = c.in_ok-put_in.ensures.reads;
  left = c.follow.ensures ∙ ap (λ (command : Option Command). left_by 0 command c.put_in.new.held) (c.executed.ensures ∙ ap (λ (s : State). executed s c.args.step.now) c.platform.view_is);
}
