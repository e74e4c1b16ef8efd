use Rattle.std.proofs.Common.{◌≡◌, Result, Ok, subst, rules}
use Rattle.std.specs.Prelude.{All}
use Rattle.iom_bits.specs.declared.causes.Cause.{Cause}
use Rattle.iom_ddt.specs.Directory.{located}
use Rattle.iom_ddt.specs.declared.context.Context.{Context}
use Rattle.iom_tables.specs.Bounds.{PartFits}
use Rattle.iom_tables.specs.Parts.{stage_parts}
use Rattle.iom_tables.proofs.listing.push_located.Goals as goal

pub returns-in-Ok-clause-fits : goal.returns-in-Ok-clause-fits
returns-in-Ok-clause-fits c =
    let m = c.args.platform.now.machine in
    let request = c.args.request.now in
    let found : Ok c.in-Ok.context ≡ located m.memory m.registers request.did = search rules in
    subst (λ (r : Result Context Cause). All PartFits (stage_parts m.memory m.registers.features request.iova request.kind r)) found
    c.push_stages.ensures.fits
