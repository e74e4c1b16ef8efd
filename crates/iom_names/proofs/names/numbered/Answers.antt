use Rattle.std.proofs.Common.{◌≡◌, length, ap, arith}
use Rattle.iom_names.proofs.names.numbered.Goals as goal

pub returns-else-put_with_numbers-clause-none : goal.returns-else-put_with_numbers-clause-none
returns-else-put_with_numbers-clause-none c =
    let first : length c.new-out.result.items ≡ 0 = ap length c.new-out.ensures in
    let more = c.put_with_numbers.ensures.none c.if-put_with_numbers.false in
    omega (arith, first, more)
