use Rattle.std.proofs.Common.{◌≡◌, ◌+◌, ◌-◌, ◌*◌, ◌/◌, ℕ, List, length, take, drop, ap, ◌∙◌, arith}
use Rattle.std.proofs.Math.Seq.{paste}
use Rattle.iom_mem.specs.Words.{bytes_of_words}
use Rattle.iom_mem.proofs.WordBytes.{words_hold}
use Rattle.iom_mem.proofs.Pasting.{paste_first, paste_both}
use Rattle.iom_mem.proofs.Ends.{whole_set}
use Rattle.iom_mem.proofs.word_bytes.write_whole.Goals as goal

pub returns-then-count-ge4-clause-bytes : goal.returns-then-count-ge4-clause-bytes
returns-then-count-ge4-clause-bytes c =
    let d : List ℕ = bytes_of_words c.args.words.now in
    let bytes : List ℕ = c.args.bytes.now in
    let count : ℕ = length bytes / 8 in
    let at : ℕ = 8 * c.args.first in
    let from : ℕ = 8 * (count - 4) in
    c.write_four-then-count-ge4.ensures.bytes
    ∙ ap (λ e. paste e (at + from) (take 32 (drop from bytes)) 32) c.write_four.ensures.bytes
    ∙ paste_both d at bytes 32 (8 * 0) from (at + 8 * 0) (at + from) (8 * count) (omega arith) (omega arith) (omega arith) (omega arith)
    (omega arith) (omega arith) (omega (arith, c.requires.room, words_hold c.args.words.now))

pub returns-then-count-ge2-clause-bytes : goal.returns-then-count-ge2-clause-bytes
returns-then-count-ge2-clause-bytes c =
    let d : List ℕ = bytes_of_words c.args.words.now in
    let bytes : List ℕ = c.args.bytes.now in
    let count : ℕ = length bytes / 8 in
    let at : ℕ = 8 * c.args.first in
    let from : ℕ = 8 * (count - 2) in
    c.write_two-then-count-ge2.ensures.bytes
    ∙ ap (λ e. paste e (at + from) (take 16 (drop from bytes)) 16) c.write_two.ensures.bytes
    ∙ paste_both d at bytes 16 (8 * 0) from (at + 8 * 0) (at + from) (8 * count) (omega arith) (omega arith) (omega arith) (omega arith)
    (omega arith) (omega arith) (omega (arith, c.requires.room, words_hold c.args.words.now))

pub returns-then-count-eq1-clause-bytes : goal.returns-then-count-eq1-clause-bytes
returns-then-count-eq1-clause-bytes c =
    let d : List ℕ = bytes_of_words c.args.words.now in
    let bytes : List ℕ = c.args.bytes.now in
    let one : 8 ≡ 8 * (length bytes / 8) = omega arith in
    whole_set c.args.words.now c.args.first bytes 0 c.number.result (omega (arith, c.requires.room)) (omega arith) (λ i. (c.type_inv.bytes i).fits) c.number.ensures.value
    ∙ paste_first d (8 * c.args.first) bytes 8 ∙ ap (paste d (8 * c.args.first) bytes) one
