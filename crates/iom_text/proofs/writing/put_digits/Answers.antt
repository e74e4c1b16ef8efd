use Rattle.std.proofs.Common.{◌≡◌, ◌++◌, ◌-◌, suc, drop, subst, ◌∙◌, arith, rules}
use Rattle.iom_text.specs.Texts.{digits_in}
use Rattle.iom_text.proofs.Digits.{put_before}
use Rattle.iom_text.proofs.writing.put_digits.Goals as goal

pub loop-i-preserved : goal.loop-i-preserved
loop-i-preserved c =
    let kept = c.loop-i.invariant in
    let at = c.loop-i.i - 1 in
    let after : c.loop-i.i ≡ suc at = omega (arith, c.loop-i-test.true) in
    let now = put_before 10 c.loop-i.places at c.loop-i.rest c.glyph.result c.args.number (omega arith)
    (omega (arith, after, kept.0, kept.1, c.loop-i.auto.i))
    (kept.1 ∙ after)
    c.glyph.ensures
    (subst (λ n. digits_in 10 c.loop-i.rest ++ drop n c.loop-i.places ≡ digits_in 10 c.args.number) after kept.2) in
    (search rules, now.0, now.1)
