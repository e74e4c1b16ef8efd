-- Each goal by one tactic, so that a wrong body is refused without a long search.
use Rattle.std.proofs.Common.{rules}
use Rattle.iom_walk.proofs.entry.pointer_judged_by.Goals as goal

pub returns-then-has_bit-3 : goal.returns-then-has_bit-3
returns-then-has_bit-3 c = search rules

pub returns-then-level-eq0 : goal.returns-then-level-eq0
returns-then-level-eq0 c = search rules

pub returns-else-level-eq0 : goal.returns-else-level-eq0
returns-else-level-eq0 c = search rules
