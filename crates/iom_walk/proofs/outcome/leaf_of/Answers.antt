-- Each goal by one tactic, so that a wrong body is refused without a long search.
use Rattle.std.proofs.Common.{rules}
use Rattle.iom_walk.proofs.Frames.{frame_fits}
use Rattle.iom_walk.proofs.outcome.leaf_of.Goals as goal

pub returns-clause-leaf : goal.returns-clause-leaf
returns-clause-leaf c = search (rules, frame_fits)
