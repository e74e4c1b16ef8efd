use Rattle.std.proofs.Common.{◌≡◌, ◌-◌, ◌*◌, ◌/◌, ◌%◌, ℕ, List, [], ◌++◌, length, take, drop, sym, ap, ◌∙◌, arith, length-take, length-drop}
use Rattle.std.proofs.Math.Seq.{paste}
use Rattle.std.proofs.lemmas.List.{take_rest, take-append-drop, drop_all, append-nil}
use Rattle.iom_mem.specs.Words.{bytes_of_words}
use Rattle.iom_mem.proofs.WordBytes.{words_hold, bytes_of_append}
use Rattle.iom_mem.proofs.Pasting.{paste_behind}
use Rattle.iom_mem.proofs.word_bytes.write_bytes.Goals as goal

pub returns-clause-bytes : goal.returns-clause-bytes
returns-clause-bytes c =
    let words : List ℕ = c.args.words.now in
    let bytes : List ℕ = c.args.bytes.now in
    let first : ℕ = c.args.at / 8 in
    let front : List ℕ = take first words in
    let back : List ℕ = drop first words in
    let size : length (bytes_of_words front) ≡ 8 * first = omega (arith, words_hold front, length-take first words, c.requires) in
    let whole : take (length words - first) back ≡ back = take_rest words first in
    let parts : bytes_of_words front ++ bytes_of_words back ≡ bytes_of_words words =
    sym (bytes_of_append front back) ∙ ap bytes_of_words (take-append-drop first words) in
    let new : List ℕ = c.write_from.new.words in
    let behind : bytes_of_words new ≡ paste (bytes_of_words back) (c.args.at % 8) bytes (length bytes) =
    c.write_from.ensures.bytes ∙ ap (λ ws. paste (bytes_of_words ws) (c.args.at % 8) bytes (length bytes)) whole in
    let nothing : drop (length words - first) back ≡ [] = drop_all (length words - first) back (omega (arith, length-drop first words)) in
    ap (λ r. bytes_of_words (front ++ (new ++ r))) nothing ∙ ap (λ r. bytes_of_words (front ++ r)) (append-nil new) ∙ bytes_of_append front new
    ∙ ap (λ b. bytes_of_words front ++ b) behind
    ∙ paste_behind (bytes_of_words front) (bytes_of_words back) (c.args.at % 8) bytes (length bytes) c.args.at (omega (arith, size))
    ∙ ap (λ d. paste d c.args.at bytes (length bytes)) parts
