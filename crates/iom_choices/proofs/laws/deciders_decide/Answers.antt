use Rattle.iom_choices.proofs.Represented.{allowed_decides, begun, goes_on, joined, possible_decides}
use Rattle.iom_choices.proofs.laws.deciders_decide.Goals as goal

pub returns-clause-begins : goal.returns-clause-begins
returns-clause-begins g c = λ sys fits start. begun sys fits start

pub returns-clause-goes_on : goal.returns-clause-goes_on
returns-clause-goes_on g c = λ sys tree trees requests ahead fits start traces list are seen next alike. goes_on sys tree trees requests ahead fits start traces list are seen next alike

pub returns-clause-joins : goal.returns-clause-joins
returns-clause-joins g c = λ sys fits start traces others list more first second. joined sys fits start traces others list more first second

pub returns-clause-decides : goal.returns-clause-decides
returns-clause-decides g c = λ sys fits start traces list are. (possible_decides sys fits start traces list are, allowed_decides sys fits start traces list are)
