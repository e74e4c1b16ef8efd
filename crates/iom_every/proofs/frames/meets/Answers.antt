use Rattle.std.proofs.Common.{◌∙◌, ◌/◌, ◌^◌, ◌&&◌, ℕ, arith, nat_le, ap}
use Rattle.iom_every.proofs.Named.{met}
use Rattle.iom_every.proofs.frames.meets.Goals as goal

pub returns : goal.returns
returns c =
    let number : ℕ = c.args.number in
    let width : ℕ = c.args.width in
    c.is_between.ensures ∙ ap (λ (low : ℕ). nat_le low number && nat_le number c.above-2.result) c.above.ensures
    ∙ ap (λ (high : ℕ). nat_le (c.args.addr / 4096 / 2 ^ width) number && nat_le number high) (c.above-2.ensures ∙ ap (λ (page : ℕ). page / 2 ^ width) c.last_page.ensures)
    ∙ met c.args.addr c.args.len number width (omega (arith, c.if-len-eq0.false))
