use Rattle.std.proofs.Common.{refl, sym, subst}
use Rattle.iom_c.specs.Handles.{Begins}
use Rattle.iom_c.proofs.owned.begun.Goals as goal

pub returns : goal.returns
returns c = subst (Begins c.args.held) (sym c.in_ok-new.ensures.ok)
    (record { held = refl; trace = c.in_ok-trace.ensures; count = refl; kept = c.in_ok-kept.ensures; settling = refl; history = c.history-history.ensures })
