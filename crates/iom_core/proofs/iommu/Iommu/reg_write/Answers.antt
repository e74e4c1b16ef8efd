use Rattle.std.proofs.Common.{rules}
use Rattle.iom_core.specs.Table.{reg_write}
use Rattle.iom_core.proofs.iommu.Iommu.reg_write.Goals as goal

pub returns-clause-answer : goal.returns-clause-answer
unfolding reg_write
returns-clause-answer c = search rules
