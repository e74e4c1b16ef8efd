-- Each goal by one tactic, so that a wrong body is refused without a long search.
use Rattle.std.proofs.Common.{rules}
use Rattle.iom_walk.proofs.entry.leaf_judged_by.Goals as goal

pub returns-then-ppn_of-pages_at-ne0 : goal.returns-then-ppn_of-pages_at-ne0
returns-then-ppn_of-pages_at-ne0 c = search rules

pub returns-then-not-may_use : goal.returns-then-not-may_use
returns-then-not-may_use c = search rules

pub returns-then-not-has_bit : goal.returns-then-not-has_bit
returns-then-not-has_bit c = search rules

pub returns-then-not-has_bit-2 : goal.returns-then-not-has_bit-2
returns-then-not-has_bit-2 c = search rules

pub returns-then-not-has_bit-3 : goal.returns-then-not-has_bit-3
returns-then-not-has_bit-3 c = search rules

pub returns-then-not-has_bit-4 : goal.returns-then-not-has_bit-4
returns-then-not-has_bit-4 c = search rules

pub returns-else-is_write-2 : goal.returns-else-is_write-2
returns-else-is_write-2 c = search rules
