use Rattle.std.proofs.Common.{◌≡◌, length, ap, sym, arith}
use Rattle.iom_names.proofs.Long.{too_long}
use Rattle.iom_names.proofs.names.line_with_numbers.Goals as goal

pub returns-else-put_with_numbers-clause-line : goal.returns-else-put_with_numbers-clause-line
returns-else-put_with_numbers-clause-line c =
    let first : length c.new-out.result.items ≡ 0 = ap length c.new-out.ensures in
    let more = c.put_with_numbers.ensures.none c.if-put_with_numbers.false in
    sym (too_long _ (omega (arith, first, more)))
