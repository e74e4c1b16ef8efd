use Rattle.iom_tables.proofs.Bounds.{mode_fits}
use Rattle.iom_regs.specs.Views.{mode_of}
use Rattle.iom_tables.proofs.listing.push_walk.Goals as goal

pub returns-in-Levels-clause-fits : goal.returns-in-Levels-clause-fits
returns-in-Levels-clause-fits c =
    let m = c.args.platform.now.machine in
    mode_fits (mode_of m.registers) m c.args.request.now (λ levels is. c.push_located.ensures.fits)
