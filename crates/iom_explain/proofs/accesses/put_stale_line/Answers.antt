use Rattle.iom_explain.proofs.Pieces.{three}
use Rattle.iom_explain.proofs.accesses.put_stale_line.Goals as goal

pub returns-clause-text : goal.returns-clause-text
returns-clause-text c =
    three _ _ _ _ _ _ _ c.put.ensures.text
    (rw (c.as_slice.ensures.value, c.name_of.ensures.named, c.served_line.ensures) at c.put_stale_access.ensures.text) c.put-2.ensures.text
