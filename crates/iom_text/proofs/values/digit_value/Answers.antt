use Rattle.std.proofs.Common.{◌≡◌, ℕ, ◌<◌, map, get_or, refl, ap, ◌∙◌, arith}
use Rattle.std.proofs.lemmas.List.FromFn.{get_or-map-range_with_len}
use Rattle.std.specs.List.{range_with_len}
use Rattle.std.specs.Char.{digit_value}
use Rattle.iom_text.specs.declared.values.TheConstants.{DIGITS}
use Rattle.iom_text.proofs.values.digit_value.Goals as goal

-- the table has the value of each byte
table_is : DIGITS ≡ map digit_value (range_with_len 0 256)
table_is = refl

read : (c : ℕ) → c < 256 → get_or DIGITS c 0 ≡ digit_value c
read c below = ap (λ table. get_or table c 0) table_is ∙ get_or-map-range_with_len digit_value 0 256 c c 0 below (omega arith)

pub returns : goal.returns
returns c = ap (λ k. get_or DIGITS k 0) c.from.ensures ∙ read c.args.c (omega arith)
