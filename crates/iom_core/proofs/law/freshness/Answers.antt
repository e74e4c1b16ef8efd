use Rattle.iom_core.proofs.Explained.{explained, up_to_date_with}
use Rattle.iom_core.proofs.Warranted.{warranted}
use Rattle.iom_core.proofs.law.freshness.Goals as goal

pub returns-clause-warranted : goal.returns-clause-warranted
returns-clause-warranted c = λ start steps none n. explained start steps none n

pub returns-clause-up_to_date : goal.returns-clause-up_to_date
returns-clause-up_to_date c = λ start steps n request warrant has. up_to_date_with start steps n request warrant has

pub returns-clause-accesses : goal.returns-clause-accesses
returns-clause-accesses c = λ start steps none. warranted start steps none
