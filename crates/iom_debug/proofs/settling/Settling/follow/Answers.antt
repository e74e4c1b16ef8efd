use Rattle.std.proofs.Common.{◌≡◌, ◌∷◌, ap, subst}
use Rattle.iom_core.specs.State.{State}
use Rattle.iom_core.specs.Table.{next}
use Rattle.iom_owed.specs.Behind.{KeepsBehind}
use Rattle.iom_owed.specs.Holdings.{HoldingsView, Keeps}
use Rattle.iom_debug.specs.Settling.{SettlingView}
use Rattle.iom_debug.proofs.settling.Settling.follow.Goals as goal

pub returns-clause-keeps : goal.returns-clause-keeps
returns-clause-keeps c = λ ahead start taken k.
    let held : c.self.inside.holdings ≡ c.args.self.now.holdings = ap (λ (settling : SettlingView). settling.holdings) c.self.view_is in
    let Goal : HoldingsView → State → Type 0 = λ held state. Keeps ahead held state start taken →
    KeepsBehind ahead c.judge_and_follow.new.self (next state c.args.step.now).state start ((c.args.step.now, c.args.number) ∷ taken) in
    subst (λ (held : HoldingsView). Goal held c.args.platform.now) held
    (subst (Goal c.self.inside.holdings) c.platform.view_is (c.in_ok-found.ensures.behind ahead start taken)) k
