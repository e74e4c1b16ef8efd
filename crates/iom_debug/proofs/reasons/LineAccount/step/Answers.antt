use Rattle.std.proofs.Common.{◌≡◌, [], ◌∷◌, ap, subst}
use Rattle.iom_account.specs.Account.{AccountView, GoesAlong}
use Rattle.iom_core.specs.State.{State}
use Rattle.iom_core.specs.Table.{next}
use Rattle.iom_debug.specs.Reasons.{LineAccountView}
use Rattle.iom_debug.specs.Settling.{ReadsAheadIf, SettlesIf}
use Rattle.iom_debug.proofs.Settled.{settled_whole_if}
use Rattle.iom_debug.proofs.reasons.LineAccount.step.Goals as goal

pub returns-then-is_some-clause-along : goal.returns-then-is_some-clause-along
returns-then-is_some-clause-along c =
    let before : c.self.inside.account ≡ c.args.self.now.account = ap (λ (own : LineAccountView). own.account) c.self.view_is in
    subst (λ (account : AccountView). GoesAlong account c.args.platform.now (c.args.step.now ∷ []) c.args.number c.step-seen.new.self
    c.step-seen.new.platform) before c.step-seen.ensures.along

pub returns-else-is_some-clause-along : goal.returns-else-is_some-clause-along
returns-else-is_some-clause-along c =
    let before : c.self.inside.account ≡ c.args.self.now.account = ap (λ (own : LineAccountView). own.account) c.self.view_is in
    subst (λ (account : AccountView). GoesAlong account c.args.platform.now (c.args.step.now ∷ []) c.args.number c.step-seen.new.self
    c.step-seen.new.platform) before c.step-seen.ensures.along

pub returns-then-is_some-clause-settled : goal.returns-then-is_some-clause-settled
returns-then-is_some-clause-settled c =
    let reads : ReadsAheadIf c.settle.new.settling (next c.args.platform.now c.args.step.now).state c.args.number c.settle_behind.new.settling =
    subst (λ (state : State). ReadsAheadIf c.settle.new.settling state c.args.number c.settle_behind.new.settling) c.step-seen.ensures.state c.settle_behind.ensures in
    subst (λ (own : LineAccountView). SettlesIf own.settling c.args.platform.now c.args.step.now c.args.number c.settle_behind.new.settling) c.self.view_is
    (settled_whole_if c.self.inside.settling c.settle.new.settling c.settle_behind.new.settling c.args.platform.now c.args.step.now c.args.number c.settle.ensures reads)

pub returns-else-is_some-clause-settled : goal.returns-else-is_some-clause-settled
returns-else-is_some-clause-settled c =
    let reads : ReadsAheadIf c.settle.new.settling (next c.args.platform.now c.args.step.now).state c.args.number c.settle_behind.new.settling =
    subst (λ (state : State). ReadsAheadIf c.settle.new.settling state c.args.number c.settle_behind.new.settling) c.step-seen.ensures.state c.settle_behind.ensures in
    subst (λ (own : LineAccountView). SettlesIf own.settling c.args.platform.now c.args.step.now c.args.number c.settle_behind.new.settling) c.self.view_is
    (settled_whole_if c.self.inside.settling c.settle.new.settling c.settle_behind.new.settling c.args.platform.now c.args.step.now c.args.number c.settle.ensures reads)
