use Rattle.iom_core.proofs.Stores.{answered_among, played, steps_alone, warranted_among}
use Rattle.iom_core.proofs.others.others_write.Goals as goal

pub returns-clause-end : goal.returns-clause-end
returns-clause-end c = λ start happenings written. played start happenings written

pub returns-clause-answers : goal.returns-clause-answers
returns-clause-answers c = λ start happenings written n. answered_among start happenings n written

pub returns-clause-warranted : goal.returns-clause-warranted
returns-clause-warranted c = λ start happenings written none n. warranted_among start happenings n written none

pub returns-clause-alone : goal.returns-clause-alone
returns-clause-alone c = λ steps. steps_alone steps
