use Rattle.std.proofs.Common.{◌≡◌, ◌+◌, ◌*◌, ◌/◌, ◌%◌, ℕ, sym, ◌∙◌, ap, get_or, arith}
use Rattle.iom_bits.specs.Bytes.{number_of_bytes}
use Rattle.iom_mem.proofs.Digits.{number_of_own}
use Rattle.iom_mem.proofs.WordBytes.{whole_word, two_words}
use Rattle.iom_mem.proofs.word_bytes.word_from.Goals as goal

pub returns-then-skipped-eq0-clause-bytes : goal.returns-then-skipped-eq0-clause-bytes
returns-then-skipped-eq0-clause-bytes c =
    let place : 8 * c.args.first + c.args.skipped ≡ 8 * c.args.first = omega (arith, c.if-skipped-eq0.true) in
    rw place (whole_word c.args.words.now c.args.first (omega (arith, c.requires.within)))

pub returns-else-skipped-eq0-clause-bytes : goal.returns-else-skipped-eq0-clause-bytes
returns-else-skipped-eq0-clause-bytes c =
    let at : ℕ = 8 * c.args.first + c.args.skipped in
    let first : at / 8 ≡ c.args.first = omega (arith, c.requires.part) in
    let skipped : at % 8 ≡ c.args.skipped = omega (arith, c.requires.part) in
    two_words c.args.words.now at 8 c.joined.result (omega arith) (omega (arith, c.if-skipped-eq0.false)) c.requires.within
    (rw (first, skipped) c.joined.ensures.low) (rw (first, skipped) c.joined.ensures.value)

pub returns-then-skipped-eq0-clause-value : goal.returns-then-skipped-eq0-clause-value
returns-then-skipped-eq0-clause-value c =
    sym (number_of_own 8 (get_or c.args.words.now c.args.first 0) (c.type_inv.words c.args.first).fits)
    ∙ ap number_of_bytes (returns-then-skipped-eq0-clause-bytes c)

pub returns-else-skipped-eq0-clause-value : goal.returns-else-skipped-eq0-clause-value
returns-else-skipped-eq0-clause-value c =
    sym (number_of_own 8 c.joined.result c.joined.type_inv) ∙ ap number_of_bytes (returns-else-skipped-eq0-clause-bytes c)
