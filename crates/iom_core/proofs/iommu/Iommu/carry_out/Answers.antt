use Rattle.std.proofs.Common.{rules}
use Rattle.iom_core.proofs.iommu.Iommu.carry_out.Goals as goal

pub returns-clause-left : goal.returns-clause-left
returns-clause-left g c = search rules
