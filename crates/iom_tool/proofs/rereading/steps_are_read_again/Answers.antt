use Rattle.iom_tool.proofs.StepTexts.{reads_steps, reads_steps_of_run}
use Rattle.iom_tool.proofs.rereading.steps_are_read_again.Goals as goal

pub returns-clause-debug : goal.returns-clause-debug
returns-clause-debug c = reads_steps

pub returns-clause-run : goal.returns-clause-run
returns-clause-run c = reads_steps_of_run
