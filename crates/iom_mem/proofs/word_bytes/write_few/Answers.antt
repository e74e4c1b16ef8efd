use Rattle.std.proofs.Common.{◌≡◌, ◌+◌, ◌-◌, ◌*◌, ◌/◌, ◌^◌, ◌<◌, ℕ, List, length, get_or, set, take, drop, sym, ap, ◌∙◌, arith, length-drop, length-set}
use Rattle.std.proofs.Math.Seq.{paste}
use Rattle.std.proofs.lemmas.List.{take_all}
use Rattle.iom_bits.specs.Bytes.{number_of_bytes}
use Rattle.iom_mem.specs.Words.{bytes_of_words}
use Rattle.iom_mem.proofs.Digits.{highest_fits, last_digits}
use Rattle.iom_mem.proofs.WordBytes.{words_hold}
use Rattle.iom_mem.proofs.Ends.{first_set, last_set, field_set}
use Rattle.iom_mem.proofs.Pasting.{paste_rest}
use Rattle.iom_mem.proofs.word_bytes.write_few.Goals as goal

pub below-requires-clause-fits : goal.below-requires-clause-fits
below-requires-clause-fits c =
    let len : ℕ = length c.args.bytes.now in
    highest_fits c.number-number.result (c.args.kept + len - 8) (8 - c.args.kept) len c.number-number.ensures.fits
    (omega (arith, c.if-end-gt8.true, c.requires.part))

pub returns-then-end-gt8-clause-bytes : goal.returns-then-end-gt8-clause-bytes
returns-then-end-gt8-clause-bytes c =
    let words : List ℕ = c.args.words.now in
    let bytes : List ℕ = c.args.bytes.now in
    let kept : ℕ = c.args.kept in
    let len : ℕ = length bytes in
    let n : ℕ = 8 - kept in
    let count : ℕ = kept + len - 8 in
    let number : ℕ = c.number-number.result in
    let once : List ℕ = set words 0 c.above.result in
    let size : length once ≡ length words = length-set words 0 c.above.result in
    let all : take 8 bytes ≡ bytes = take_all 8 bytes (omega (arith, c.requires.few)) in
    let small : (i : ℕ) → get_or bytes i 0 < 256 = λ i. (c.type_inv.bytes i).fits in
    let sum : count + n ≡ len = omega (arith, c.if-end-gt8.true, c.requires.part) in
    let fits : number / 2 ^ (8 * n) < 2 ^ (8 * count) = highest_fits number count n len c.number-number.ensures.fits sum in
    let place : len - count ≡ n = omega (arith, sum) in
    let own : length (drop n bytes) ≡ count = omega (arith, sum, length-drop n bytes) in
    let second : 8 * 1 ≡ kept + n = omega (arith, c.requires.part) in
    let d : List ℕ = bytes_of_words words in
    last_set once 1 count bytes c.below.result (number / 2 ^ (8 * n)) (omega (arith, size, c.requires.within, c.requires.part))
    (omega (arith, c.requires.few, c.requires.part)) (omega (arith, c.if-end-gt8.true)) (omega (arith, sum))
    (last_digits bytes 0 n count number small c.number-number.ensures.value (omega (arith, sum))) c.below.ensures fits
    ∙ ap (λ e. paste e (8 * 1) (drop (len - count) bytes) count)
    (first_set words kept bytes c.above.result number c.requires.part c.requires.within (omega (arith, c.if-end-gt8.true)) small
    (c.number-number.ensures.value ∙ ap number_of_bytes (sym all)) c.above.ensures)
    ∙ ap (λ p. paste (paste d kept bytes n) p (drop (len - count) bytes) count) second
    ∙ ap (λ k. paste (paste d kept bytes n) (kept + n) (drop k bytes) count) place
    ∙ ap (paste (paste d kept bytes n) (kept + n) (drop n bytes)) (sym own)
    ∙ paste_rest d kept bytes n (omega (arith, sum)) (omega (arith, words_hold words, c.requires.within))

pub returns-else-end-gt8-clause-bytes : goal.returns-else-end-gt8-clause-bytes
returns-else-end-gt8-clause-bytes c =
    field_set c.args.words.now c.args.kept c.args.bytes.now c.with_field.result c.number-number.result c.requires.part c.requires.some
    c.if-end-gt8.false c.requires.within (λ i. (c.type_inv.bytes i).fits) c.number-number.ensures.value c.with_field.ensures.value
