use Rattle.std.proofs.Common.{◌≡◌, ◌+◌, ◌-◌, ◌%◌, ◌/◌, ℕ, List, length, drop, ap, ◌∙◌, arith}
use Rattle.std.proofs.lemmas.List.{take_rest}
use Rattle.iom_bits.specs.Bytes.{number_of_bytes}
use Rattle.iom_mem.proofs.Digits.{highest_fits, last_digits}
use Rattle.iom_mem.proofs.Ends.{last_set}
use Rattle.iom_mem.proofs.word_bytes.write_end.Goals as goal

pub below-requires-clause-fits : goal.below-requires-clause-fits
below-requires-clause-fits c =
    highest_fits c.number.result (c.args.behind % 8) (8 - c.args.behind % 8) 8 c.number.type_inv (omega arith)

pub returns-then-count-gt0-clause-bytes : goal.returns-then-count-gt0-clause-bytes
returns-then-count-gt0-clause-bytes c =
    let bytes : List ℕ = c.args.bytes.now in
    let count : ℕ = c.args.behind % 8 in
    let from : ℕ = length bytes - 8 in
    let is_number : c.number.result ≡ number_of_bytes (drop from bytes) =
    c.number.ensures.value ∙ ap number_of_bytes (take_rest bytes from) in
    last_set c.args.words.now (c.args.behind / 8 + 1) count bytes c.below.result _ (omega (arith, c.requires.within)) (omega arith)
    c.if-count-gt0.true (omega (arith, c.requires.some))
    (last_digits bytes from (8 - count) count c.number.result (λ i. (c.type_inv.bytes i).fits) is_number (omega (arith, c.requires.some)))
    c.below.ensures (highest_fits c.number.result count (8 - count) 8 c.number.type_inv (omega arith))
