use Rattle.iom_explain.proofs.Pieces.{three}
use Rattle.iom_explain.proofs.accesses.put_elsewhere.Goals as goal

pub returns : goal.returns
returns c =
    three _ _ _ _ _ _ _ c.put.ensures.text c.put_elsewhere_at.ensures.text c.put-2.ensures.text
