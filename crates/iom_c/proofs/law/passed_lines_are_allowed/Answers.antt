use Rattle.iom_c.proofs.Allowed.{allowed}
use Rattle.iom_c.proofs.law.passed_lines_are_allowed.Goals as goal

pub returns : goal.returns
returns c = allowed
