use Rattle.std.proofs.Common.{◌∙◌, subst, sym}
use Rattle.iom_core.specs.declared.step.Step.{Step}
use Rattle.iom_judge.specs.Idle.{IsIdle}
use Rattle.iom_queue.specs.Fetching.{fetch_of}
use Rattle.iom_judge.proofs.Times.{command_idle}
use Rattle.iom_judge.proofs.unseen.is_idle.Goals as goal

pub returns-in-Idle : goal.returns-in-Idle
returns-in-Idle c = λ idle.
    subst (λ (step : Step). IsIdle step c.args.platform.now) (sym c.in-Command.is)
    (command_idle c.args.platform.now ((λ n. fetch_of (sym c.registers.ensures n) (sym c.ram.ensures n)) ∙ sym c.next_command.ensures.value ∙ c.in-Idle.is))
