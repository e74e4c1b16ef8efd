-- No vector is beyond those that there are.
use Rattle.std.proofs.Common.{◌≡◌, ◌≤◌, ◌+◌, ◌==◌, ◌&&◌, ◌||◌, ℕ, Bool, false, arith}
use Rattle.std.proofs.lemmas.Grind.{common_steps}
use Rattle.iom_bits.specs.Bits.{has_bit, field_of}
use Rattle.iom_bits.specs.Features.{vectors_of}
use Rattle.iom_bits.specs.declared.features.Vectors.{Vectors}
use Rattle.iom_bits.specs.declared.features.Vectors.TheVariants.{One, Two, Four}
use Rattle.iom_regs.specs.Offers.{icvec_of, vector_count}
use Rattle.iom_regs.specs.Table.{Registers}
use Rattle.iom_regs.specs.Sound.{IsSound}
use Rattle.iom_regs.specs.Interrupts.{is_high, is_wired}

none : (wired a b : Bool) (first second vector : ℕ) → (first == vector) ≡ false → (second == vector) ≡ false →
    (wired && (a && first == vector || b && second == vector)) ≡ false
none wired a b first second vector one other = grind (arith, common_steps, one, other)

other : (n vector : ℕ) → n + 1 ≤ vector → (n == vector) ≡ false
other n vector above = grind (arith, above)

below : (vectors : Vectors) (icvec vector : ℕ) → icvec_of vectors icvec ≡ icvec → vector_count vectors ≤ vector →
    ((field_of icvec 0 4 == vector) ≡ false) × ((field_of icvec 4 4 == vector) ≡ false)
below One icvec vector whole above = (other _ vector (omega (arith, whole, above)), other _ vector (omega (arith, whole, above)))
below Two icvec vector whole above = (other _ vector (omega (arith, whole, above)), other _ vector (omega (arith, whole, above)))
below Four icvec vector whole above = (other _ vector (omega (arith, whole, above)), other _ vector (omega (arith, whole, above)))

pub low_beyond : (r : Registers) (vector : ℕ) → IsSound r → vector_count (vectors_of r.features) ≤ vector → is_high r vector ≡ false
low_beyond r vector sound above =
    let both = below (vectors_of r.features) r.icvec vector sound.icvec above in
    none (is_wired r) (has_bit r.ipsr 0) (has_bit r.ipsr 1) (field_of r.icvec 0 4) (field_of r.icvec 4 4) vector both.0 both.1
