use Rattle.std.proofs.Common.{◌≡◌, ◌+◌, ◌*◌, ℕ, List, length, take, drop, ap, ◌∙◌, arith}
use Rattle.std.proofs.Math.Seq.{paste}
use Rattle.iom_mem.specs.Words.{bytes_of_words}
use Rattle.iom_mem.proofs.WordBytes.{words_hold}
use Rattle.iom_mem.proofs.Pasting.{paste_next}
use Rattle.iom_mem.proofs.word_bytes.write_four.Goals as goal

pub returns-clause-bytes : goal.returns-clause-bytes
returns-clause-bytes c =
    let bytes : List ℕ = c.args.bytes.now in
    let d : List ℕ = bytes_of_words c.args.words.now in
    let size : length d ≡ 8 * length c.args.words.now = words_hold c.args.words.now in
    let from : ℕ = 8 * c.args.skipped in
    let then : ℕ = 8 * (c.args.skipped + 2) in
    c.write_two-2.ensures.bytes
    ∙ ap (λ e. paste e (8 * c.args.first + then) (take 16 (drop then bytes)) 16) c.write_two.ensures.bytes
    ∙ paste_next d (8 * c.args.first + from) bytes from 16 16 (8 * c.args.first + then) then 32 (omega arith) (omega arith) (omega arith)
    (omega (arith, c.requires.there)) (omega (arith, size, c.requires.there, c.requires.room))
