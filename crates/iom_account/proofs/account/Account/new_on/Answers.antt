use Rattle.std.proofs.Common.{[], List, sym, subst}
use Rattle.iom_core.specs.State.{state_on}
use Rattle.iom_account.specs.Account.{Accounts}
use Rattle.iom_account.specs.declared.reason.Reason.{Reason}
use Rattle.iom_account.proofs.Telling.{nothing_told}
use Rattle.iom_account.proofs.account.Account.new_on.Goals as goal

pub returns-clause-begins : goal.returns-clause-begins
returns-clause-begins c = λ memory.
    let platform = state_on memory c.args.board.now in
    subst (λ (told : List Reason). Accounts (record { history = c.new_on.result; reasons = told }) platform platform [] []) (sym c.new.ensures)
    (nothing_told c.new_on.result platform (c.new_on.ensures memory))
