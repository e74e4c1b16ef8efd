use Rattle.std.proofs.Common.{◌≡◌, ◌+◌, ◌*◌, sym, ◌∙◌, ap, get_or, take, drop, arith}
use Rattle.iom_bits.specs.Bytes.{number_of_bytes}
use Rattle.iom_mem.specs.Words.{bytes_of_words}
use Rattle.iom_mem.proofs.Digits.{number_of_own}
use Rattle.iom_mem.proofs.WordBytes.{whole_word}
use Rattle.iom_mem.proofs.word_bytes.all_words.Goals as goal

pub returns-clause-read : goal.returns-clause-read
returns-clause-read c i h =
    let place : 8 * i ≡ 0 + 8 * i = omega arith in
    sym (number_of_own 8 (get_or c.args.words.now i 0) (c.type_inv.words i).fits)
    ∙ ap number_of_bytes (whole_word c.args.words.now i h)
    ∙ ap (λ p. number_of_bytes (take 8 (drop p (bytes_of_words c.args.words.now)))) place
