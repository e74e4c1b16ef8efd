use Rattle.std.proofs.Common.{rules}
use Rattle.iom_core.specs.Access.{record_left}
use Rattle.iom_core.proofs.iommu.Iommu.deny.Goals as goal

pub returns-then-denial-clause-left : goal.returns-then-denial-clause-left
unfolding record_left
returns-then-denial-clause-left g c = search rules
