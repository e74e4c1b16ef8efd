use Rattle.std.proofs.Common.{arith, rules}
use Rattle.std.proofs.lemmas.Grind.{common_steps}
use Rattle.iom_nested.proofs.translation.hit_by.Goals as goal

pub returns-in-Outside : goal.returns-in-Outside
returns-in-Outside c = search rules

pub returns-in-Guest : goal.returns-in-Guest
returns-in-Guest c = grind (arith, common_steps)
