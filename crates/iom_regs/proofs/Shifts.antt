-- A bit at its place in a word.
use Rattle.std.proofs.Common.{◌≡◌, ◌+◌, ◌*◌, ◌%◌, ◌^◌, ◌<◌, ℕ, ◌∙◌, ap, lit<, arith}
use Rattle.std.specs.Int.{bit_at}
use Rattle.std.proofs.lemmas.Nat.{shl_whole, pow-add}
use Rattle.iom_bits.specs.Bits.{field_of}
use Rattle.iom_regs.specs.Table.{entries_of}
use Rattle.std.proofs.lemmas.Nat.Bits.{bit_at-lt}

pub bit_placed : (word bit : ℕ) → bit < 64 → bit_at word bit * 2 ^ bit % 2 ^ 64 ≡ 2 ^ bit * bit_at word bit
bit_placed word bit small = shl_whole (bit_at word bit) 1 bit 64 (bit_at-lt word bit) (omega arith) ∙ omega arith

pub entries_shifted : (base count : ℕ) → count ≡ field_of base 0 5 → 2 * 2 ^ count % 18446744073709551616 ≡ entries_of base
entries_shifted base count is =
    let small : count < 32 = omega (arith, is) in
    shl_whole 2 2 count 64 (lit< tt) (omega arith) ∙ omega (arith, pow-add 2 count 1) ∙ ap (λ n. 2 ^ (n + 1)) is
