use Rattle.std.proofs.Common.{◌≡◌, ◌+◌, ◌*◌, ◌/◌, ◌%◌, ◌∙◌, ap, take, drop, arith}
use Rattle.iom_bits.specs.Bytes.{number_of_bytes}
use Rattle.iom_mem.specs.Words.{bytes_of_words}
use Rattle.iom_mem.proofs.word_bytes.word_at.Goals as goal

pub returns-clause-bytes : goal.returns-clause-bytes
returns-clause-bytes c =
    let place : 8 * (c.args.at / 8) + c.args.at % 8 ≡ c.args.at = omega arith in
    c.word_from.ensures.bytes ∙ ap (λ p. take 8 (drop p (bytes_of_words c.args.words.now))) place

pub returns-clause-value : goal.returns-clause-value
returns-clause-value c =
    let place : 8 * (c.args.at / 8) + c.args.at % 8 ≡ c.args.at = omega arith in
    c.word_from.ensures.value ∙ ap (λ p. number_of_bytes (take 8 (drop p (bytes_of_words c.args.words.now)))) place
