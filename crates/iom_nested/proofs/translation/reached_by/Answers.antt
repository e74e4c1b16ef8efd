use Rattle.std.proofs.lemmas.Grind.{common_steps}
use Rattle.std.proofs.Common.{rules, arith}
use Rattle.iom_nested.proofs.translation.reached_by.Goals as goal

pub returns-in-Guest-clause-reached : goal.returns-in-Guest-clause-reached
returns-in-Guest-clause-reached c = grind (arith, common_steps)

pub returns-in-Leaf-clause-reached : goal.returns-in-Leaf-clause-reached
returns-in-Leaf-clause-reached c = search rules

pub returns-in-Outside-clause-reached : goal.returns-in-Outside-clause-reached
returns-in-Outside-clause-reached c = search rules

pub returns-in-Fault-clause-reached : goal.returns-in-Fault-clause-reached
returns-in-Fault-clause-reached c = search rules
