use Rattle.std.proofs.Common.{arith}
use Rattle.iom_text.proofs.Digits.{front_all, has_room, one_more_counted, one_more_left}
use Rattle.iom_text.proofs.writing.with_even_digits.Goals as goal

pub overflow_mul-result : goal.overflow_mul-result
overflow_mul-result c =
    omega (arith, has_room c.args.number c.args.count c.requires.below (omega (arith, c.requires.most, c.if-count-eq0.false)))

pub returns-then-count-eq0-clause-count : goal.returns-then-count-eq0-clause-count
returns-then-count-eq0-clause-count c = omega (arith, c.requires.count, c.if-count-eq0.true)

pub returns-then-count-eq0-clause-front : goal.returns-then-count-eq0-clause-front
returns-then-count-eq0-clause-front c = front_all c.args.number c.args.count c.requires.count

pub returns-else-count-eq0-clause-count : goal.returns-else-count-eq0-clause-count
returns-else-count-eq0-clause-count c =
    omega (arith, c.requires.count, one_more_counted c.args.number c.requires.some, c.if-count-eq0.false)

pub returns-else-count-eq0-clause-front : goal.returns-else-count-eq0-clause-front
returns-else-count-eq0-clause-front c = one_more_left c.args.number c.args.count c.requires.some c.requires.count
