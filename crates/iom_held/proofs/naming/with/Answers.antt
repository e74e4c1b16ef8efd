use Rattle.std.proofs.Common.{subst}
use Rattle.iom_held.specs.Naming.{AreTold}
use Rattle.iom_held.proofs.Named.{more_told, one_told}
use Rattle.iom_held.proofs.naming.with.Goals as goal

pub returns-in-Some : goal.returns-in-Some
returns-in-Some c = λ all h. more_told c.in-Some.before c.args.kept.now c.older.result c.saturating_add.result all c.saturating_add.ensures c.older.ensures (subst (AreTold all) c.in-Some.is h)

pub returns-in-None : goal.returns-in-None
returns-in-None c = λ all h. one_told c.args.kept.now all (subst (AreTold all) c.in-None.is h)
