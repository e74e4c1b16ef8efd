use Rattle.iom_core.specs.Commands.{executed_by, after_command}
use Rattle.std.proofs.Common.{rules}
use Rattle.iom_core.proofs.iommu.Iommu.command.Goals as goal

pub returns-in-Illegal-clause-left : goal.returns-in-Illegal-clause-left
unfolding after_command executed_by
returns-in-Illegal-clause-left g c = search rules
