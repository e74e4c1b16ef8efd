-- What is put into a field is read back, and no other field changes.
use Rattle.std.proofs.Common.{◌≡◌, ◌+◌, ◌/◌, ◌^◌, ◌<◌, ◌≤◌, ◌⊎◌, ◌*◌, ◌%◌, ℕ, ap, subst, sym, ◌∙◌, inl, inr, arith}
use Rattle.std.specs.Int.{bit_at}
use Rattle.std.proofs.lemmas.Nat.{mod_below, pow_pos, shr_split}
use Rattle.std.proofs.lemmas.Nat.Bits.{bit_at_above, bit_at-zero, same_from_bits}
use Rattle.std.proofs.lemmas.Bool.{cases_lt}
use Rattle.iom_bits.specs.Bits.{field_of, with_field_of}
use Rattle.iom_bits.proofs.Fields.{bit_at-shr, field_is, with_field_is}

-- numbers of so many bits are the same if all these bits are
same_below : (a b width : ℕ) → a < 2 ^ width → b < 2 ^ width → ((i : ℕ) → i < width → bit_at a i ≡ bit_at b i) → a ≡ b
same_below a b width first second same = same_from_bits a b (λ i. elim (cases_lt i width) as (λ _. bit_at a i ≡ bit_at b i) [
  | inl below ↦ same i below
  | inr above ↦ bit_at_above a width i first above ∙ sym (bit_at_above b width i second above)
])

pub field_below : (word low width : ℕ) → field_of word low width < 2 ^ width
field_below word low width = (field_is word low width).fits

pub read_back : (word low width value : ℕ) → value < 2 ^ width → field_of (with_field_of word low width value) low width ≡ value
read_back word low width value fits =
    let put = with_field_is word low width value fits in
    let read = field_is (with_field_of word low width value) low width in
    same_below (field_of (with_field_of word low width value) low width) value width read.fits fits (λ i below. read.bits i below ∙ put.inside i below)

pub kept_apart : (word low width value other count : ℕ) → value < 2 ^ width → (other + count ≤ low) ⊎ (low + width ≤ other) →
    field_of (with_field_of word low width value) other count ≡ field_of word other count
kept_apart word low width value other count fits apart =
    let put = with_field_is word low width value fits in
    let new = field_is (with_field_of word low width value) other count in
    let old = field_is word other count in
    let bits : (i : ℕ) → i < count → bit_at (with_field_of word low width value) (other + i) ≡ bit_at word (other + i) = λ i below.
    elim apart as (λ _. bit_at (with_field_of word low width value) (other + i) ≡ bit_at word (other + i)) [
      | inl under ↦ put.below (other + i) (omega (arith, under, below))
      | inr over ↦ put.above (other + i) (omega (arith, over))
    ] in
    same_below (field_of (with_field_of word low width value) other count) (field_of word other count) count new.fits old.fits
    (λ i below. new.bits i below ∙ bits i below ∙ sym (old.bits i below))

-- a word stays one
pub stays_word : (word low width value : ℕ) → word < 2 ^ 64 → low + width ≤ 64 → value < 2 ^ width → with_field_of word low width value < 2 ^ 64
stays_word word low width value wide within fits =
    let put = with_field_is word low width value fits in
    let none : with_field_of word low width value / 2 ^ 64 ≡ 0 = same_from_bits (with_field_of word low width value / 2 ^ 64) 0 (λ i.
    bit_at-shr (with_field_of word low width value) 64 i ∙ put.above (64 + i) (omega (arith, within)) ∙ bit_at_above word 64 (64 + i) wide (omega arith)
    ∙ sym (bit_at-zero i)) in
    omega (arith, none)

-- a number of zeros below some bits has no bit above them
pub told_below : (zeros width value : ℕ) → value < 2 ^ width → with_field_of 0 zeros width value < 2 ^ (zeros + width)
told_below zeros width value fits =
    let n : ℕ = with_field_of 0 zeros width value in
    let bits : ℕ = zeros + width in
    let put = with_field_is 0 zeros width value fits in
    let none : n / 2 ^ bits ≡ 0 = same_from_bits (n / 2 ^ bits) 0 (λ i.
    bit_at-shr n bits i ∙ put.above (bits + i) (omega arith) ∙ bit_at-zero (bits + i) ∙ sym (bit_at-zero i)) in
    let split : n / 2 ^ bits * 2 ^ bits + n % 2 ^ bits ≡ n = shr_split n bits in
    let high : n / 2 ^ bits * 2 ^ bits ≡ 0 * 2 ^ bits = ap (λ high. high * 2 ^ bits) none in
    let low : n % 2 ^ bits ≡ n = omega (arith, split, high) in
    subst (λ (n : ℕ). n < 2 ^ bits) low (mod_below n (2 ^ bits) (pow_pos bits))
