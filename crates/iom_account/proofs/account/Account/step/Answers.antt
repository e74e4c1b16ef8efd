use Rattle.std.proofs.Common.{[], ◌∷◌, subst}
use Rattle.iom_core.specs.State.{State, state_on}
use Rattle.iom_account.specs.Account.{CountsStep, GoesAlong}
use Rattle.iom_account.proofs.account.Account.step.Goals as goal

pub returns-clause-counted : goal.returns-clause-counted
returns-clause-counted c =
    subst (λ (s : State). CountsStep c.args.self.now s c.args.step.now c.args.number c.step_on.new.self (state_on c.step_on.new.ram c.step_on.new.board))
    c.platform.view_is c.step_on.ensures.counted

pub returns-clause-along : goal.returns-clause-along
returns-clause-along c =
    subst (λ (s : State). GoesAlong c.args.self.now s (c.args.step.now ∷ []) c.args.number c.step_on.new.self (state_on c.step_on.new.ram c.step_on.new.board))
    c.platform.view_is c.step_on.ensures.along
