use Rattle.std.proofs.Common.{Ok, rules}
use Rattle.iom_tables.proofs.Bounds.{stages_fit}
use Rattle.iom_tables.proofs.listing.push_stages.Goals as goal

pub returns-clause-fits : goal.returns-clause-fits
returns-clause-fits c =
    stages_fit c.args.platform.now.machine.memory c.args.platform.now.machine.registers.features c.args.request.now.iova c.args.request.now.kind (Ok c.args.context.now) (rw (← c.context.view_is) c.context.invariant) (search rules)
