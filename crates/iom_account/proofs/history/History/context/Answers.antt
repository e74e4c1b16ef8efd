use Rattle.std.proofs.Common.{ℕ, Option, sym, subst}
use Rattle.std.specs.Prelude.{IsSomeAnd}
use Rattle.iom_account.specs.Following.{ContextFrom}
use Rattle.iom_account.proofs.Placed.{context_at_place}
use Rattle.iom_account.proofs.history.History.context.Goals as goal

pub returns-clause-from : goal.returns-clause-from
returns-clause-from c = λ platform start steps numbers did context h is.
    subst (λ (o : Option ℕ). IsSomeAnd o (ContextFrom start steps numbers did context)) (sym c.context_beside.ensures)
    (context_at_place c.args.self.now platform start steps numbers h c.args.i did context is)
