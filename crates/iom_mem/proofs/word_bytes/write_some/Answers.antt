use Rattle.std.proofs.Common.{◌+◌, ◌-◌, ◌*◌, ◌/◌, ◌%◌, ℕ, List, length, take, drop, ap, ◌∙◌, arith}
use Rattle.std.proofs.Math.Seq.{paste}
use Rattle.std.proofs.lemmas.List.{take_rest}
use Rattle.iom_mem.proofs.WordBytes.{words_hold}
use Rattle.iom_mem.proofs.Pasting.{paste_words}
use Rattle.iom_mem.specs.Words.{bytes_of_words}
use Rattle.iom_mem.proofs.word_bytes.write_some.Goals as goal

pub returns-clause-bytes : goal.returns-clause-bytes
returns-clause-bytes c =
    let bytes : List ℕ = c.args.bytes.now in
    let n : ℕ = 8 - c.args.kept in
    let rest : List ℕ = take (length bytes - n) (drop n bytes) in
    c.write_end.ensures.bytes
    ∙ ap (λ d. paste d (8 * (length rest / 8 + 1)) (drop (length bytes - length rest % 8) bytes) (length rest % 8)) (c.write_whole.ensures.bytes
    ∙ ap (λ d. paste d (8 * 1) rest (8 * (length rest / 8))) c.write_start.ensures.bytes)
    ∙ paste_words (bytes_of_words c.args.words.now) c.args.kept bytes rest c.requires.part c.requires.some
    (omega (arith, c.requires.within, words_hold c.args.words.now)) (take_rest bytes n)
