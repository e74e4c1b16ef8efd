use Rattle.std.proofs.Common.{rules}
use Rattle.iom_nested.proofs.second.got_behind.Goals as goal

pub returns-in-Leaf : goal.returns-in-Leaf
returns-in-Leaf g c = search rules

pub returns-in-Outside : goal.returns-in-Outside
returns-in-Outside g c = search rules

pub returns-in-Guest : goal.returns-in-Guest
returns-in-Guest g c = search rules
