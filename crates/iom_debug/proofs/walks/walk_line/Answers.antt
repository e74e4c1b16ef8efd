use Rattle.std.proofs.Common.{rules}
use Rattle.iom_debug.specs.Walks.{walk_text}
use Rattle.iom_debug.proofs.walks.walk_line.Goals as goal

pub returns-in-Some : goal.returns-in-Some
unfolding walk_text
returns-in-Some c = search rules

pub returns-in-None : goal.returns-in-None
unfolding walk_text
returns-in-None c = search rules
