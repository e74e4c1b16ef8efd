use Rattle.std.proofs.Common.{◌+◌, ◌*◌, ℕ, List, take, drop, ap, ◌∙◌, arith}
use Rattle.std.proofs.Math.Seq.{paste}
use Rattle.iom_mem.specs.Words.{bytes_of_words}
use Rattle.iom_mem.proofs.WordBytes.{words_hold}
use Rattle.iom_mem.proofs.Pasting.{paste_next}
use Rattle.iom_mem.proofs.word_bytes.put_four.Goals as goal

pub returns : goal.returns
returns c =
    let words : List ℕ = c.args.words.now in
    let bytes : List ℕ = bytes_of_words words in
    let first : ℕ = c.args.first in
    let place : ℕ = c.args.to + 8 * first in
    let second : ℕ = c.args.to + 8 * (first + 2) in
    c.put_two-2.ensures
    ∙ ap (λ e. paste e second (take 16 (drop (8 * (first + 2)) bytes)) 16) c.put_two.ensures
    ∙ paste_next c.args.out.now place bytes (8 * first) 16 16 second (8 * (first + 2)) 32 (omega arith) (omega arith) (omega arith)
    (omega (arith, c.requires.there, words_hold words)) (omega (arith, c.requires.there, c.requires.room))
