use Rattle.iom_judge.proofs.Judged.{allowed_any, any_allowed}
use Rattle.iom_judge.proofs.law.traces_are_judged_right.Goals as goal

pub returns : goal.returns
returns c = λ start traces candidates are. (any_allowed start traces candidates are, allowed_any start traces candidates are)
