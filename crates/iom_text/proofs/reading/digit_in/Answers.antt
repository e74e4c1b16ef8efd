use Rattle.std.proofs.Common.{◌≡◌, ◌<◌, sym, subst, ◌∙◌, arith}
use Rattle.std.specs.Char.{digit_value}
use Rattle.iom_text.proofs.reading.digit_in.Goals as goal

pub returns-then-value-radix : goal.returns-then-value-radix
returns-then-value-radix c =
    let value : c.from-value.result ≡ digit_value c.args.c = c.from-value.ensures ∙ c.digit_value.ensures in
    (subst (λ n. n < c.args.radix) value (omega (arith, c.if-value-radix.true)), value)

pub returns-else-value-radix : goal.returns-else-value-radix
returns-else-value-radix c =
    let value : c.from-value.result ≡ digit_value c.args.c = c.from-value.ensures ∙ c.digit_value.ensures in
    λ below. let small : c.from-value.result < c.args.radix = subst (λ n. n < c.args.radix) (sym value) below in absurd (omega (arith, small, c.if-value-radix.false))
