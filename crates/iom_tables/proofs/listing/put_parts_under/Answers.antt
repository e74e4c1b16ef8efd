use Rattle.std.proofs.Common.{rules}
use Rattle.iom_tables.specs.Parts.{parts_under}
use Rattle.iom_tables.proofs.Under.{under_fits, under_passes, under_read}
use Rattle.iom_tables.proofs.listing.put_parts_under.Goals as goal

pub returns-clause-parts : goal.returns-clause-parts
unfolding parts_under
returns-clause-parts c = search rules

pub returns-clause-read : goal.returns-clause-read
returns-clause-read c = under_read c.args.platform.now.machine.memory c.args.platform.now.machine.registers.features c.args.request.now c.args.context.now _ (returns-clause-parts c)

pub returns-clause-passed : goal.returns-clause-passed
returns-clause-passed c = under_passes c.args.platform.now.machine.memory c.args.platform.now.machine.registers.features c.args.request.now c.args.context.now _ (returns-clause-parts c)

pub returns-clause-fits : goal.returns-clause-fits
returns-clause-fits c =
    under_fits c.args.platform.now.machine.memory c.args.platform.now.machine.registers.features c.args.request.now c.args.context.now _ (returns-clause-parts c)
    c.push_stages.ensures.fits
