-- What a hart's load reads.
use Rattle.std.proofs.Common.{◌≡◌, ◌+◌, ◌-◌, ◌*◌, ◌≤◌, ℕ, zero, suc, List, [], ◌∷◌, ◌++◌, length, take, drop, Some, true, ◌∙◌, ap, subst, refl, arith}
use Rattle.std.specs.Prelude.{replicate}
use Rattle.std.proofs.lemmas.List.{drop-replicate, length-take-le}
use Rattle.iom_bits.specs.Bytes.{number_of_bytes}
use Rattle.iom_mem.specs.Memory.{Memory, bytes_at}
use Rattle.iom_core.specs.Table.{is_aligned, load}
use Rattle.iom_core.specs.declared.step.Answer.TheVariants as answer

number_of_zeros : (count : ℕ) → number_of_bytes (replicate count 0) ≡ 0
number_of_zeros zero = refl
number_of_zeros (suc count) = omega (arith, number_of_zeros count)

number_of_padded : (bytes more : List ℕ) → number_of_bytes more ≡ 0 → number_of_bytes (bytes ++ more) ≡ number_of_bytes bytes
number_of_padded [] more e = e
number_of_padded (byte ∷ bytes) more e = ap (λ n. byte + 256 * n) (number_of_padded bytes more e)

abbrev pub eight_zeros : List ℕ
eight_zeros = 0 ∷ 0 ∷ 0 ∷ 0 ∷ 0 ∷ 0 ∷ 0 ∷ 0 ∷ []

aligned_is_small : (addr size : ℕ) → is_aligned addr size ≡ true → size ≤ 8
aligned_is_small addr size h = grind arith

pub loaded : (memory : Memory) (addr size : ℕ) (out : List ℕ) (value : ℕ) → is_aligned addr size ≡ true →
    bytes_at memory addr (length (take size eight_zeros)) ≡ Some out →
    value ≡ number_of_bytes (out ++ drop size eight_zeros) →
    answer.Value value ≡ load memory addr size
unfolding load
loaded memory addr size out value aligned read number =
    let count : length (take size eight_zeros) ≡ size = length-take-le size eight_zeros (aligned_is_small addr size aligned) in
    let there : bytes_at memory addr size ≡ Some out = subst (λ (n : ℕ). bytes_at memory addr n ≡ Some out) count read in
    let rest : number_of_bytes (drop size eight_zeros) ≡ 0 = ap number_of_bytes (drop-replicate size 8 0) ∙ number_of_zeros (8 - size) in
    rw (number ∙ number_of_padded out (drop size eight_zeros) rest, aligned, there) refl
