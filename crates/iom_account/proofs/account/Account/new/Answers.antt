use Rattle.std.proofs.Common.{[], subst}
use Rattle.iom_core.specs.State.{State}
use Rattle.iom_account.specs.Account.{Accounts}
use Rattle.iom_account.proofs.account.Account.new.Goals as goal

pub returns-clause-begins : goal.returns-clause-begins
returns-clause-begins c =
    subst (λ (s : State). Accounts c.new_on.result s s [] []) c.platform.view_is (c.new_on.ensures.begins c.platform.inside.ram)
