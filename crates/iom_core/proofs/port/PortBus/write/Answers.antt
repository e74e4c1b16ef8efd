use Rattle.iom_core.specs.Access.{effect}
use Rattle.std.proofs.Common.{rules}
use Rattle.iom_core.proofs.port.PortBus.write.Goals as goal

pub returns : goal.returns
unfolding effect
returns g c = search rules
