use Rattle.iom_explain.proofs.Pieces.{three}
use Rattle.iom_explain.proofs.accesses.put_warrant.Goals as goal

pub returns-clause-text : goal.returns-clause-text
returns-clause-text c = three _ _ _ _ _ _ _ c.put.ensures.text c.put_used.ensures.text c.put-2.ensures.text
