use Rattle.std.proofs.Common.{◌≡◌, ◌+◌, ◌*◌, ℕ, List, get_or, take, drop, ap, ◌∙◌, arith}
use Rattle.std.proofs.Math.Seq.{paste}
use Rattle.iom_bits.specs.Bytes.{bytes_of_number}
use Rattle.iom_mem.specs.Words.{bytes_of_words}
use Rattle.iom_mem.proofs.WordBytes.{words_hold, whole_word}
use Rattle.iom_mem.proofs.Pasting.{paste_next}
use Rattle.iom_mem.proofs.word_bytes.put_two.Goals as goal

pub returns : goal.returns
returns c =
    let words : List ℕ = c.args.words.now in
    let bytes : List ℕ = bytes_of_words words in
    let first : ℕ = c.args.first in
    let out : List ℕ = c.args.out.now in
    let place : ℕ = c.args.to + 8 * first in
    let low : bytes_of_number 8 (get_or words first 0) ≡ take 8 (drop (8 * first) bytes) =
    whole_word words first (omega (arith, c.requires.there)) in
    let high : bytes_of_number 8 (get_or words (first + 1) 0) ≡ take 8 (drop (8 * (first + 1)) bytes) =
    whole_word words (first + 1) (omega (arith, c.requires.there)) in
    c.put_word-2.ensures
    ∙ ap (λ e. paste e (place + 8) (bytes_of_number 8 (get_or words (first + 1) 0)) 8) c.put_word.ensures
    ∙ ap (λ b. paste (paste out place b 8) (place + 8) (bytes_of_number 8 (get_or words (first + 1) 0)) 8) low
    ∙ ap (λ b. paste (paste out place (take 8 (drop (8 * first) bytes)) 8) (place + 8) b 8) high
    ∙ paste_next out place bytes (8 * first) 8 8 (place + 8) (8 * (first + 1)) 16 (omega arith) (omega arith) (omega arith)
    (omega (arith, c.requires.there, words_hold words)) (omega (arith, c.requires.there, c.requires.room))
