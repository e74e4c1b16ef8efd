use Rattle.std.proofs.Common.{◌+◌, ◌-◌, ◌*◌, ◌/◌, ◌%◌, ◌^◌, ℕ, List, length, get_or, take, drop, refl, ap, ◌∙◌, arith}
use Rattle.std.proofs.Math.Seq.{paste}
use Rattle.iom_mem.specs.Words.{bytes_of_words}
use Rattle.iom_mem.proofs.Ends.{many_read}
use Rattle.iom_mem.proofs.word_bytes.read_some.Goals as goal

pub returns : goal.returns
returns c =
    let words : List ℕ = c.args.words.now in
    let out : List ℕ = c.args.out.now in
    let at : ℕ = c.args.at in
    let last : ℕ = at + length out - 1 in
    let middle : List ℕ = take (last / 8 - (at / 8 + 1)) (drop (at / 8 + 1) words) in
    let high : ℕ = get_or words (last / 8) 0 * 2 ^ (8 * (7 - last % 8)) % 2 ^ 64 in
    let low : ℕ = get_or words (at / 8) 0 / 2 ^ (8 * (at % 8)) in
    c.put_words.ensures
    ∙ ap (λ e. paste e (8 - at % 8) (bytes_of_words middle) (8 * length middle)) c.put_ends.ensures
    ∙ many_read words out middle at last low high c.requires.within (omega (arith, c.requires.some)) (omega (arith, c.requires.some)) refl refl refl
