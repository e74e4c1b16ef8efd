use Rattle.std.proofs.Common.{◌≡◌, ◌<◌, ◌≤◌, ◌+◌, ◌*◌, ◌/◌, ℕ, List, length, take, drop, ap, ◌∙◌, arith}
use Rattle.std.proofs.Math.Seq.{paste}
use Rattle.iom_mem.specs.Words.{bytes_of_words}
use Rattle.iom_mem.proofs.WordBytes.{words_hold}
use Rattle.iom_mem.proofs.Pasting.{paste_more_of}
use Rattle.iom_mem.proofs.word_bytes.write_pairs.Goals as goal

pub loop-i-preserved : goal.loop-i-preserved
loop-i-preserved c =
    let l = c.loop-i in
    let bytes : List ℕ = c.args.bytes.now in
    let d : List ℕ = bytes_of_words c.args.words.now in
    let size : length d ≡ 8 * length c.args.words.now = words_hold c.args.words.now in
    let inside : l.i < length bytes / 16 = c.loop-i-test.true in
    let at : ℕ = 8 * c.args.first in
    let place : ℕ = at + 8 * (2 * l.i) in
    let room : at + 16 * (l.i + 1) ≤ length d = omega (arith, inside, c.requires, size) in
    let some : 16 * (l.i + 1) ≤ length bytes = omega (arith, inside) in (
      c.write_two.ensures.bytes ∙ ap (λ e. paste e place (take 16 (drop (8 * (2 * l.i)) bytes)) 16) l.invariant.0
          ∙ paste_more_of d at bytes (16 * l.i) (8 * (2 * l.i)) 16 place (16 * (l.i + 1)) (omega arith) (omega arith) (omega arith) (omega arith) some room,
      c.write_two.ensures.size ∙ l.invariant.1,
    )
