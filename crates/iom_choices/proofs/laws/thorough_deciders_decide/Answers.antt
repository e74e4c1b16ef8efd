use Rattle.iom_choices.proofs.Deciding.{alike_marked, allowed_marked, begun, goes_on, joined, marked_decides}
use Rattle.iom_choices.proofs.laws.thorough_deciders_decide.Goals as goal

pub returns-clause-begins : goal.returns-clause-begins
returns-clause-begins g c = λ sys commands making tree fits start. begun sys commands making tree fits start

pub returns-clause-goes_on : goal.returns-clause-goes_on
returns-clause-goes_on g c = λ sys commands making tree trees requests ahead fits start traces list are seen next alike.
    goes_on sys commands making tree trees requests ahead fits start traces list are seen next alike

pub returns-clause-joins : goal.returns-clause-joins
returns-clause-joins g c = λ sys commands making tree fits start traces others list more first second. joined sys commands making tree fits start traces others list more first second

pub returns-clause-thins : goal.returns-clause-thins
returns-clause-thins g c = λ sys commands making tree fits start traces list few are alike. alike_marked sys commands making tree fits start traces list few are alike

pub returns-clause-decides : goal.returns-clause-decides
returns-clause-decides g c = λ sys commands making tree fits start traces list are. (
  marked_decides sys commands making tree fits start traces list are,
  allowed_marked sys commands making tree fits start traces list are,
)
