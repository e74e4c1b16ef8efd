use Rattle.iom_owed.proofs.Pages.{at_each_byte, at_the_first, none_unsettled, told_or_settled, told_unsettled}
use Rattle.iom_owed.proofs.law.owed_pages_are_of_each_byte.Goals as goal

pub returns-clause-pages : goal.returns-clause-pages
returns-clause-pages c = λ ahead start steps request. (at_each_byte ahead start steps request, at_the_first ahead start steps request)

pub returns-clause-told : goal.returns-clause-told
returns-clause-told c = told_or_settled

pub returns-clause-none : goal.returns-clause-none
returns-clause-none c = none_unsettled

pub returns-clause-unsettled : goal.returns-clause-unsettled
returns-clause-unsettled c = told_unsettled
