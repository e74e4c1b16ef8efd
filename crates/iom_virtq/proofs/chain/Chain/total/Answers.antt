use Rattle.std.proofs.Common.{rules}
use Rattle.iom_virtq.proofs.chain.Chain.total.Goals as goal

pub returns-clause-total : goal.returns-clause-total
returns-clause-total c = search rules

pub returns-clause-few : goal.returns-clause-few
returns-clause-few c = search rules
