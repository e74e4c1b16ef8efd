use Rattle.std.proofs.Common.{◌≡◌, ◌∙◌, Some, ap, sym}
use Rattle.iom_debug.specs.Reasons.{LineAccountView}
use Rattle.iom_debug.proofs.Owed.{owed_by}
use Rattle.iom_debug.proofs.reasons.LineAccount.owed.Goals as goal

pub returns-clause-owed : goal.returns-clause-owed
returns-clause-owed c =
    let is : c.args.self.now.settling ≡ Some c.in_ok-as_mut.field-0.now = ap (λ (own : LineAccountView). own.settling) (sym c.self.view_is) ∙ sym c.in_ok-as_mut.ensures.value in
    owed_by (λ owed. owed.items) c.args.self.now.settling c.in_ok-as_mut.field-0.now c.args.platform.now c.owed.result is c.owed.ensures.owed
