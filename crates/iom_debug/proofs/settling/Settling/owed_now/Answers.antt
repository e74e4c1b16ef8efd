use Rattle.std.proofs.Common.{◌≡◌, ap, subst}
use Rattle.std.specs.Prelude.{IfOk}
use Rattle.iom_core.specs.State.{State}
use Rattle.iom_owed.specs.Holdings.{HoldingsView, Keeps}
use Rattle.iom_owed.specs.Newest.{steps_of}
use Rattle.iom_owed.specs.Settled.{AreOwed}
use Rattle.iom_debug.specs.Settling.{SettlingView}
use Rattle.iom_debug.proofs.Owed.{owed_ok}
use Rattle.iom_debug.proofs.settling.Settling.owed_now.Goals as goal

pub returns-clause-owed : goal.returns-clause-owed
returns-clause-owed c = λ ahead start taken k.
    let held : c.self.inside.holdings ≡ c.args.self.now.holdings = ap (λ (settling : SettlingView). settling.holdings) c.self.view_is in
    let Goal : HoldingsView → State → Type 0 = λ held state. Keeps ahead held state start taken → IfOk c.owed.result (λ owed. AreOwed ahead held start (steps_of taken) owed.items) in
    let told : IfOk c.owed.result (λ owed. AreOwed ahead c.args.self.now.holdings start (steps_of taken) owed.items) =
    subst (λ (held : HoldingsView). Goal held c.args.platform.now) held (subst (Goal c.self.inside.holdings) c.platform.view_is (c.owed.ensures ahead start taken)) k in
    rw c.ok.ensures.value (owed_ok c.owed.result (λ owed. AreOwed ahead c.args.self.now.holdings start (steps_of taken) owed.items) told)
