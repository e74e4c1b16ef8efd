use Rattle.std.proofs.Common.{Option, sym, subst}
use Rattle.std.specs.Prelude.{IsSomeAnd}
use Rattle.iom_account.specs.Following.{PageFrom}
use Rattle.iom_account.specs.declared.history.FilledBy.{FilledBy}
use Rattle.iom_account.proofs.Placed.{page_at_place}
use Rattle.iom_account.proofs.history.History.page.Goals as goal

pub returns-clause-from : goal.returns-clause-from
returns-clause-from c = λ platform start steps numbers key hit h is.
    subst (λ (o : Option FilledBy). IsSomeAnd o (λ filled. PageFrom start steps numbers key hit filled.context filled.walk)) (sym c.page_beside.ensures)
    (page_at_place c.args.self.now platform start steps numbers h c.args.i key hit is)
