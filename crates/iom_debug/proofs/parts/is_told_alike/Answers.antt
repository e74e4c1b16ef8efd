use Rattle.iom_debug.proofs.Alike.{told_alike}
use Rattle.iom_debug.proofs.parts.is_told_alike.Goals as goal

pub returns-clause-alike : goal.returns-clause-alike
returns-clause-alike c is now before request asked features read was =
    told_alike now before request asked c.args.part.now c.args.other.now (c.is_same.ensures.0 is).0 (c.is_same.ensures.0 is).1 features read was
