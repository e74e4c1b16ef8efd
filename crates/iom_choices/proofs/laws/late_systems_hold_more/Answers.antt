use Rattle.iom_choices.proofs.Outlasting.{may_outlast, settled_at_once}
use Rattle.iom_choices.proofs.laws.late_systems_hold_more.Goals as goal

pub returns-clause-holds : goal.returns-clause-holds
returns-clause-holds g c = λ sys commands named at steps entry h. may_outlast sys commands named at steps entry h

pub returns-clause-settled : goal.returns-clause-settled
returns-clause-settled g c = λ sys commands named at steps request settled. settled_at_once sys commands named at steps request settled
