use Rattle.std.proofs.Common.{rules}
use Rattle.iom_tables.specs.Stale.{stale_way}
use Rattle.iom_tables.proofs.Sameness.{stale_tables, stale_told}
use Rattle.iom_tables.proofs.staleness.stale.Goals as goal

pub returns-clause-told : goal.returns-clause-told
unfolding stale_way
returns-clause-told c = search rules

pub returns-clause-stale : goal.returns-clause-stale
returns-clause-stale c = stale_told c.args.platform.now.machine c.args.request.now _ (returns-clause-told c)

pub returns-clause-tables : goal.returns-clause-tables
returns-clause-tables c = stale_tables c.args.platform.now.machine c.args.request.now _ (returns-clause-told c)
