use Rattle.std.proofs.Common.{◌^◌, ◌≤◌, sym, ◌∙◌, arith, lit<, le-leb, lt-ltb}
use Rattle.std.proofs.Math.Nat.{pow-le-pow_right}
use Rattle.iom_slips.proofs.ranges.has_bits.Goals as goal

pub returns-then-width-ge64 : goal.returns-then-width-ge64
returns-then-width-ge64 c =
    let top : 2 ^ 64 ≤ 2 ^ c.args.width = pow-le-pow_right (lit< tt) c.if-width-ge64.true in
    le-leb 64 c.args.width c.if-width-ge64.true ∙ sym (lt-ltb c.args.number (2 ^ c.args.width) (omega (arith, c.ranges.number.fits, top)))
