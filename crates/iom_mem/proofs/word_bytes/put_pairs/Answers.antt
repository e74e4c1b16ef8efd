use Rattle.std.proofs.Common.{◌<◌, ◌≤◌, ◌+◌, ◌*◌, ◌/◌, ℕ, List, length, take, drop, ap, ◌∙◌, arith}
use Rattle.std.proofs.Math.Seq.{paste}
use Rattle.std.proofs.lemmas.List.Edits.{length-paste}
use Rattle.iom_mem.specs.Words.{bytes_of_words}
use Rattle.iom_mem.proofs.WordBytes.{words_hold}
use Rattle.iom_mem.proofs.Pasting.{paste_more_of}
use Rattle.iom_mem.proofs.word_bytes.put_pairs.Goals as goal

pub loop-i-preserved : goal.loop-i-preserved
loop-i-preserved c =
    let l = c.loop-i in
    let words : List ℕ = c.args.words.now in
    let bytes : List ℕ = bytes_of_words words in
    let out : List ℕ = c.args.out.now in
    let inside : l.i < length words / 2 = c.loop-i-test.true in
    let place : ℕ = c.args.to + 8 * (2 * l.i) in
    let room : c.args.to + 16 * (l.i + 1) ≤ length out = omega (arith, inside, c.requires) in
    let some : 16 * (l.i + 1) ≤ length bytes = omega (arith, inside, words_hold words) in
    let now =
    c.put_two.ensures ∙ ap (λ e. paste e place (take 16 (drop (8 * (2 * l.i)) bytes)) 16) l.invariant.0
    ∙ paste_more_of out c.args.to bytes (16 * l.i) (8 * (2 * l.i)) 16 place (16 * (l.i + 1)) (omega arith) (omega arith) (omega arith) (omega arith) some room in
    (now, ap length now ∙ length-paste out c.args.to bytes (16 * (l.i + 1)) room some)
