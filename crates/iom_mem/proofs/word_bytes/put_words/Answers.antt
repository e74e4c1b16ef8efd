use Rattle.std.proofs.Common.{◌≡◌, ◌+◌, ◌-◌, ◌*◌, ℕ, List, length, take, drop, ap, ◌∙◌, arith}
use Rattle.std.proofs.Math.Seq.{paste}
use Rattle.iom_mem.specs.Words.{bytes_of_words}
use Rattle.iom_mem.proofs.WordBytes.{words_hold, whole_word}
use Rattle.iom_mem.proofs.Pasting.{paste_first, paste_both}
use Rattle.iom_mem.proofs.word_bytes.put_words.Goals as goal

pub returns-then-count-ge4 : goal.returns-then-count-ge4
returns-then-count-ge4 c =
    let words : List ℕ = c.args.words.now in
    let bytes : List ℕ = bytes_of_words words in
    let count : ℕ = length words in
    let to : ℕ = c.args.to in
    let from : ℕ = 8 * (count - 4) in
    c.put_four-then-count-ge4.ensures
    ∙ ap (λ e. paste e (to + from) (take 32 (drop from bytes)) 32) c.put_four.ensures
    ∙ paste_both c.args.out.now to bytes 32 (8 * 0) from (to + 8 * 0) (to + from) (8 * count) (omega arith) (omega arith) (omega arith) (omega arith)
    (omega arith) (omega (arith, words_hold words)) (omega (arith, c.requires.room))

pub returns-then-count-ge2 : goal.returns-then-count-ge2
returns-then-count-ge2 c =
    let words : List ℕ = c.args.words.now in
    let bytes : List ℕ = bytes_of_words words in
    let count : ℕ = length words in
    let to : ℕ = c.args.to in
    let from : ℕ = 8 * (count - 2) in
    c.put_two-then-count-ge2.ensures
    ∙ ap (λ e. paste e (to + from) (take 16 (drop from bytes)) 16) c.put_two.ensures
    ∙ paste_both c.args.out.now to bytes 16 (8 * 0) from (to + 8 * 0) (to + from) (8 * count) (omega arith) (omega arith) (omega arith) (omega arith)
    (omega arith) (omega (arith, words_hold words)) (omega (arith, c.requires.room))

pub returns-then-count-eq1 : goal.returns-then-count-eq1
returns-then-count-eq1 c =
    let words : List ℕ = c.args.words.now in
    let bytes : List ℕ = bytes_of_words words in
    let one : 8 ≡ 8 * length words = omega arith in
    c.put_word.ensures
    ∙ ap (λ b. paste c.args.out.now c.args.to b 8) (whole_word words 0 (omega arith))
    ∙ paste_first c.args.out.now c.args.to bytes 8
    ∙ ap (paste c.args.out.now c.args.to bytes) one
