use Rattle.std.proofs.Common.{◌≤◌, ◌+◌, ◌++◌, ℕ, List, length, arith, length-append}
use Rattle.iom_text.specs.Texts.{numeral}
use Rattle.iom_debug.proofs.Bounds.{short_numeral}
use Rattle.iom_debug.proofs.parts.push_small.Goals as goal

three_more : (front back : List ℕ) → length back ≤ 3 → length (front ++ back) ≤ length front + 3
three_more front back few = omega (arith, length-append front back, few)

pub returns-clause-room : goal.returns-clause-room
returns-clause-room c =
    let few : length (numeral 10 c.args.number) ≤ 3 = short_numeral c.args.number (omega (arith, c.ranges.number.fits)) in
    rw (c.append.ensures, c.as_slice.ensures.value, c.decimal.ensures.text, c.from.ensures)
    (three_more c.args.out.now (numeral 10 c.args.number) few)
