use Rattle.std.proofs.Common.{◌≡◌, ℕ, ◌==◌, ◌/◌, ◌%◌, ◌<◌, if◌then◌else◌, false, map, get_or, refl, ap, ◌∙◌, arith}
use Rattle.std.proofs.lemmas.List.FromFn.{get_or-map-range_with_len}
use Rattle.std.specs.List.{range_with_len}
use Rattle.std.specs.Fmt.{digit_glyph}
use Rattle.iom_text.specs.declared.values.TheConstants.{PAIRS}
use Rattle.iom_text.proofs.values.digit_at.Goals as goal

-- one of the two digits of a byte
abbrev digit : ℕ → ℕ → ℕ
digit byte which = digit_glyph false (if which == 0 then byte / 16 else byte % 16)

abbrev at_place : ℕ → ℕ
at_place place = digit (place / 2) (place % 2)

-- the table has the digits of each byte
table_is : PAIRS ≡ map at_place (range_with_len 0 512)
table_is = refl

read : (place : ℕ) → place < 512 → get_or PAIRS place 0 ≡ at_place place
read place below = ap (λ table. get_or table place 0) table_is ∙ get_or-map-range_with_len at_place 0 512 place place 0 below (omega arith)

pub returns-clause-higher : goal.returns-clause-higher
returns-clause-higher c = λ even. read c.args.place c.requires ∙ ap (digit (c.args.place / 2)) even

pub returns-clause-lower : goal.returns-clause-lower
returns-clause-lower c = λ odd. read c.args.place c.requires ∙ ap (digit (c.args.place / 2)) odd
