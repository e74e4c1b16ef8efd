use Rattle.std.proofs.Common.{◌≡◌, ◌+◌, ◌*◌, ◌/◌, ◌%◌, ℕ, List, length, take, drop, ap, ◌∙◌, arith, drop-drop}
use Rattle.std.proofs.lemmas.List.{take_rest}
use Rattle.iom_mem.specs.Words.{bytes_of_words}
use Rattle.iom_mem.proofs.WordBytes.{bytes_of_drop}
use Rattle.iom_mem.proofs.word_bytes.read_bytes.Goals as goal

pub returns-then-len-ge8 : goal.returns-then-len-ge8
returns-then-len-ge8 c =
    let words : List ℕ = c.args.words.now in
    let at : ℕ = c.args.at in
    let first : ℕ = at / 8 in
    let len : ℕ = length c.args.out.now in
    let place : 8 * first + at % 8 ≡ at = omega arith in
    c.read_from.ensures
    ∙ ap (λ ws. take len (drop (at % 8) (bytes_of_words ws))) (take_rest words first)
    ∙ ap (λ bytes. take len (drop (at % 8) bytes)) (bytes_of_drop words first (omega (arith, c.requires)))
    ∙ ap (take len) (drop-drop (at % 8) (8 * first) (bytes_of_words words))
    ∙ ap (λ k. take len (drop k (bytes_of_words words))) place
