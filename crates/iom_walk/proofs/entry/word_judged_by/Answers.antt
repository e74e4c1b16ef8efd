-- Each goal by one tactic, so that a wrong body is refused without a long search.
use Rattle.std.proofs.Common.{rules}
use Rattle.iom_walk.specs.Verdict.{ruling_of}
use Rattle.iom_walk.proofs.entry.word_judged_by.Goals as goal

pub returns-then-not-has_bit : goal.returns-then-not-has_bit
unfolding ruling_of
returns-then-not-has_bit c = search rules

pub returns-then-has_bit : goal.returns-then-has_bit
unfolding ruling_of
returns-then-has_bit c = search rules

pub returns-then-has_reserved : goal.returns-then-has_reserved
unfolding ruling_of
returns-then-has_reserved c = search rules

pub returns-then-has_no_access : goal.returns-then-has_no_access
unfolding ruling_of
returns-then-has_no_access c = search rules

pub returns-else-has_no_access : goal.returns-else-has_no_access
unfolding ruling_of
returns-else-has_no_access c = search rules
