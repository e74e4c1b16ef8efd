use Rattle.iom_check.proofs.Owed.{untold}
use Rattle.iom_check.proofs.checking.Checking.tell_if.Goals as goal

pub returns-else-self-clause-ok : goal.returns-else-self-clause-ok
returns-else-self-clause-ok g c = untold _ _ _ _ _ _ c.if-self.false
