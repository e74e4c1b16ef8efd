use Rattle.std.proofs.Common.{sym}
use Rattle.iom_walk.proofs.Walks.{decides}
use Rattle.iom_walk.proofs.met.end_of.Goals as goal

pub returns-in-Some-clause-end : goal.returns-in-Some-clause-end
returns-in-Some-clause-end c =
    decides _ _ _ _ _ _ _ _ (sym c.in-Some.ensures.first) c.judged_by-ruling.ensures c.is_any_global.ensures c.end_at.ensures.end
