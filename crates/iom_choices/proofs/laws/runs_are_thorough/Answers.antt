use Rattle.iom_choices.proofs.Thorough.{thorough_run_is}
use Rattle.iom_choices.proofs.laws.runs_are_thorough.Goals as goal

pub returns : goal.returns
returns g c = λ sys commands making tree trees named run is. thorough_run_is sys commands making tree trees named run is
