use Rattle.std.proofs.Common.{[], subst}
use Rattle.iom_core.specs.State.{State}
use Rattle.iom_core.specs.Warrants.{IsUncached}
use Rattle.iom_account.specs.Following.{Follows}
use Rattle.iom_account.proofs.history.History.new.Goals as goal

pub returns : goal.returns
returns c =
    subst (λ (s : State). IsUncached s → Follows c.new_on.result s s [] []) c.platform.view_is (c.new_on.ensures c.platform.inside.ram)
