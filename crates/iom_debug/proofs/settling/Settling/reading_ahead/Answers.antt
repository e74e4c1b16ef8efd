use Rattle.std.proofs.Common.{◌∙◌, [], ap, refl, sym, subst}
use Rattle.iom_owed.specs.Holdings.{Keeps}
use Rattle.iom_debug.specs.Settling.{SettlingView}
use Rattle.iom_debug.proofs.settling.Settling.reading_ahead.Goals as goal

pub returns-clause-keeps : goal.returns-clause-keeps
returns-clause-keeps c = λ known.
    subst (λ (settling : SettlingView). Keeps c.args.ahead.items settling.holdings c.args.platform.now c.args.platform.now []) (sym c.settling-2.view_is)
    (c.read_ahead.ensures.keeps (sym (ap (λ (settling : SettlingView). settling.is_lost) c.settling-2.view_is) ∙ known) c.args.ahead.items c.args.platform.now [] refl
    (c.in-Ok.ensures c.args.platform.now))
