-- Each goal by one tactic, so that a wrong body is refused without a long search.
use Rattle.std.proofs.Common.{arith}
use Rattle.iom_ddt.proofs.directory.pointed_by.Goals as goal

pub returns-then-not-has_bit-clause-entry : goal.returns-then-not-has_bit-clause-entry
returns-then-not-has_bit-clause-entry c = grind arith

pub returns-then-field-ne0-2-clause-entry : goal.returns-then-field-ne0-2-clause-entry
returns-then-field-ne0-2-clause-entry c = grind arith

pub returns-else-field-ne0-2-clause-entry : goal.returns-else-field-ne0-2-clause-entry
returns-else-field-ne0-2-clause-entry c = grind arith
