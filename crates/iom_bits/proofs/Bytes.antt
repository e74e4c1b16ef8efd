-- The bytes of a number.
use Rattle.std.proofs.Common.{◌≡◌, ℕ, zero, suc, ◌/◌, length, refl, ap}
use Rattle.iom_bits.specs.Bytes.{bytes_of_number}

pub length_of_number : (count n : ℕ) → length (bytes_of_number count n) ≡ count
length_of_number zero n = refl
length_of_number (suc count) n = ap suc (length_of_number count (n / 256))
