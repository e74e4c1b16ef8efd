use Rattle.iom_c.proofs.Uncached.{uncached}
use Rattle.iom_c.proofs.settledness.rviommu_keep_holdings.Goals as goal

pub returns-clause-uncached : goal.returns-clause-uncached
returns-clause-uncached g c = λ words placeless. uncached g.own.held words placeless
