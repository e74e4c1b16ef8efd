-- How long the operands of a line are.
use Rattle.std.proofs.Common.{◌≡◌, ◌+◌, ◌*◌, ◌/◌, ◌^◌, ◌<◌, ◌≤◌, ◌==◌, ℕ, false, zero, suc, pow-suc, List, codes, ◌++◌, length, refl, ap, ◌∙◌, length-append, arith}
use Rattle.std.specs.Int.Digits.{digits_of}
use Rattle.std.specs.Fmt.{digit_glyph}
use Rattle.std.proofs.Math.Pow.{pow_mono}
use Rattle.std.proofs.lemmas.Bool.{cond_both}
use Rattle.std.proofs.lemmas.List.{length-map}
use Rattle.std.proofs.lemmas.Nat.{pow-add}
use Rattle.std.proofs.lemmas.Int.Digits.{length-digits_of-le}
use Rattle.iom_text.specs.Texts.{digits_in, hexadecimal, numeral}
use Rattle.iom_items.specs.Layouts.{Field}
use Rattle.iom_items.specs.Lines.{content_in, number_in, operand}
use Rattle.iom_items.proofs.Fields.{field_below, told_below}
use Rattle.std.specs.Prelude.{get_or}

sixteen : (k : ℕ) → 16 ^ k ≡ 2 ^ (4 * k)
sixteen zero = refl
sixteen (suc k) =
    let four : 4 * suc k ≡ 4 + 4 * k = omega arith in
    pow-suc 16 k ∙ omega (arith, sixteen k, pow-add 2 4 (4 * k), ap (λ n. 2 ^ n) four)

-- a number of so many bits has a digit for four of them
numeral_room : (n width : ℕ) → 1 ≤ width → n < 2 ^ width → length (numeral 16 n) ≤ (width + 3) / 4
numeral_room n width some fits =
    let k : ℕ = (width + 3) / 4 in
    let below : n < 16 ^ k = omega (arith, fits, sixteen k, pow_mono {i = width} {j = 4 * k} (omega arith)) in
    cond_both (n == 0) (codes "0") (digits_in 16 n) (λ text. length text ≤ k) (λ _. omega (arith, some))
    (λ _. omega (arith, length-map (digits_of 16 n) (digit_glyph false), length-digits_of-le 16 k n (omega arith) below))

pub operand_room : (key : List ℕ) (n width : ℕ) → 1 ≤ width → n < 2 ^ width → length (operand key n) ≤ length key + 4 + (width + 3) / 4
operand_room key n width some fits =
    omega (arith, length-append (key ++ codes "=") (hexadecimal n), length-append key (codes "="), numeral_room n width some fits)

pub operand_short : (key : List ℕ) (n : ℕ) → n < 2 ^ 64 → length (operand key n) ≤ length key + 20
operand_short key n fits = omega (arith, operand_room key n 64 (omega arith) fits)

pub number_small : (field : Field) (words : List ℕ) → number_in field words < 2 ^ (field.zeros + field.width)
number_small field words =
    told_below field.zeros field.width (content_in field words) (field_below (get_or words field.word 0) field.low field.width)
