use Rattle.std.proofs.Common.{refl}
use Rattle.iom_tool.proofs.feeder.Feeder.refuse.Goals as goal

pub returns-clause-refused : goal.returns-clause-refused
returns-clause-refused c = refl
