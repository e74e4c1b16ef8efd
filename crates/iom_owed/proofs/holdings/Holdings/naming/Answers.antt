use Rattle.std.proofs.Common.{subst}
use Rattle.iom_held.specs.Naming.{AreTold, naming}
use Rattle.iom_owed.specs.Holdings.{HoldingsView}
use Rattle.iom_owed.proofs.Named.{named}
use Rattle.iom_owed.proofs.holdings.Holdings.naming.Goals as goal

pub returns : goal.returns
returns c = λ ahead.
    named ahead c.args.self.now c.args.addr c.args.len c.naming.result
    (subst (λ (held : HoldingsView). AreTold (naming c.args.addr c.args.len held.entries) c.naming.result) c.self.view_is c.naming.ensures)
