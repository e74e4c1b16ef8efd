use Rattle.iom_explain.proofs.Pieces.{three}
use Rattle.iom_explain.proofs.accesses.put_walked.Goals as goal

pub returns-clause-text : goal.returns-clause-text
returns-clause-text c = three _ _ _ _ _ _ _ c.put_number_of.ensures.text c.put_number_of-2.ensures.text c.put_number_of-3.ensures.text
