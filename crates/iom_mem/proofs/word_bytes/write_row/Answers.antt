use Rattle.std.proofs.Common.{◌+◌, ◌-◌, ◌*◌, ◌/◌, ℕ, List, length, take, drop, ap, ◌∙◌, arith}
use Rattle.std.proofs.Math.Seq.{paste}
use Rattle.iom_mem.specs.Words.{bytes_of_words}
use Rattle.iom_mem.proofs.WordBytes.{words_hold}
use Rattle.iom_mem.proofs.Pasting.{paste_more_of}
use Rattle.iom_mem.proofs.word_bytes.write_row.Goals as goal

pub returns-clause-bytes : goal.returns-clause-bytes
returns-clause-bytes c =
    let d : List ℕ = bytes_of_words c.args.words.now in
    let bytes : List ℕ = c.args.bytes.now in
    let count : ℕ = length bytes / 8 in
    let at : ℕ = 8 * c.args.first in
    let from : ℕ = 8 * (count - 2) in
    c.write_two.ensures.bytes
    ∙ ap (λ e. paste e (at + from) (take 16 (drop from bytes)) 16) c.write_pairs.ensures.bytes
    ∙ paste_more_of d at bytes (16 * (length bytes / 16)) from 16 (at + from) (8 * count) (omega arith) (omega arith) (omega arith)
    (omega (arith, c.requires.some)) (omega arith) (omega (arith, c.requires.room, words_hold c.args.words.now))
