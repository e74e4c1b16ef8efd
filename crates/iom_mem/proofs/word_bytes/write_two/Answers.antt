use Rattle.std.proofs.Common.{◌≡◌, ◌+◌, ◌-◌, ◌*◌, ℕ, List, take, drop, ap, ◌∙◌, arith}
use Rattle.iom_bits.specs.Bytes.{number_of_bytes}
use Rattle.iom_mem.proofs.Ends.{two_set}
use Rattle.iom_mem.proofs.word_bytes.write_two.Goals as goal

pub returns-clause-bytes : goal.returns-clause-bytes
returns-clause-bytes c =
    let bytes : List ℕ = c.args.bytes.now in
    let at : ℕ = 8 * c.args.skipped in
    let eight : at + 8 - at ≡ 8 = omega arith in
    let next : at + 16 - (at + 8) ≡ 8 = omega arith in
    two_set c.args.words.now c.args.first c.args.skipped bytes c.number-low.result c.number-high.result c.requires.room c.requires.there
    (λ i. (c.type_inv.bytes i).fits)
    (c.number-low.ensures.value ∙ ap (λ k. number_of_bytes (take k (drop at bytes))) eight)
    (c.number-high.ensures.value ∙ ap (λ k. number_of_bytes (take k (drop (at + 8) bytes))) next)
