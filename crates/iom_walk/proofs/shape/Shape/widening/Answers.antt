use Rattle.std.proofs.Common.{rules}
use Rattle.iom_walk.proofs.shape.Shape.widening.Goals as goal

pub returns-in-Sv39 : goal.returns-in-Sv39
returns-in-Sv39 c = search rules
