-- Each goal by one tactic, so that a wrong body is refused without a long search.
use Rattle.std.proofs.Common.{rules}
use Rattle.iom_walk.proofs.entry.consequence.Goals as goal

pub returns-in-Outside : goal.returns-in-Outside
returns-in-Outside c = search rules

pub returns-in-Guest : goal.returns-in-Guest
returns-in-Guest c = search rules

pub returns-in-Pointer : goal.returns-in-Pointer
returns-in-Pointer c = search rules

pub returns-in-Leaf : goal.returns-in-Leaf
returns-in-Leaf c = search rules

pub returns-in-Invalid : goal.returns-in-Invalid
returns-in-Invalid c = search rules
