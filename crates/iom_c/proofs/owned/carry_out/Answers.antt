use Rattle.std.proofs.Common.{ℕ, subst}
use Rattle.iom_c.specs.Handles.{state_in}
use Rattle.iom_c.specs.Keeping.{GoesOn}
use Rattle.iom_c.proofs.owned.carry_out.Goals as goal

pub returns-clause-told : goal.returns-clause-told
returns-clause-told c =
    subst (λ (n : ℕ). GoesOn c.args.own.now.told (state_in c.args.own.now.held c.args.words.now) c.args.step.now n c.step.new.told (state_in c.step.new.self c.step.new.words))
    c.saturating_add-own.ensures c.step.ensures.told
