use Rattle.std.proofs.Common.{◌+◌, ◌-◌, ◌*◌, ◌/◌, ℕ, List, length, take, drop, ap, ◌∙◌, arith}
use Rattle.std.proofs.Math.Seq.{paste}
use Rattle.iom_mem.specs.Words.{bytes_of_words}
use Rattle.iom_mem.proofs.WordBytes.{words_hold}
use Rattle.iom_mem.proofs.Pasting.{paste_more_of}
use Rattle.iom_mem.proofs.word_bytes.put_row.Goals as goal

pub returns : goal.returns
returns c =
    let words : List ℕ = c.args.words.now in
    let bytes : List ℕ = bytes_of_words words in
    let count : ℕ = length words in
    let to : ℕ = c.args.to in
    let from : ℕ = 8 * (count - 2) in
    c.put_two.ensures
    ∙ ap (λ e. paste e (to + from) (take 16 (drop from bytes)) 16) c.put_pairs.ensures
    ∙ paste_more_of c.args.out.now to bytes (16 * (count / 2)) from 16 (to + from) (8 * count) (omega arith) (omega arith) (omega arith)
    (omega (arith, c.requires.some)) (omega (arith, words_hold words)) (omega (arith, c.requires.room))
