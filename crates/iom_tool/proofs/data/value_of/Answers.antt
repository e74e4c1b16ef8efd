use Rattle.std.proofs.Common.{refl, arith}
use Rattle.iom_tool.proofs.Values.{of_digit, of_letter, of_none}
use Rattle.iom_tool.proofs.data.value_of.Goals as goal

pub returns-then-digit-lt10-clause-digit : goal.returns-then-digit-lt10-clause-digit
returns-then-digit-lt10-clause-digit c = λ _. of_digit c.args.c _ (omega arith) refl c.if-digit-lt10.true

pub returns-then-letter-lt6-clause-digit : goal.returns-then-letter-lt6-clause-digit
returns-then-letter-lt6-clause-digit c = λ _. of_letter c.args.c _ _ (omega arith) refl c.if-digit-lt10.false refl c.if-letter-lt6.true

pub returns-else-letter-lt6-clause-other : goal.returns-else-letter-lt6-clause-other
returns-else-letter-lt6-clause-other c = λ _. of_none c.args.c _ _ (omega arith) refl c.if-digit-lt10.false refl c.if-letter-lt6.false
