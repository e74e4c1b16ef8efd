-- What masks and shifts do to the bits of a word.
use Rattle.std.proofs.Common.{◌≡◌, ◌+◌, ◌-◌, ◌*◌, ◌/◌, ◌%◌, ◌^◌, ◌<◌, ◌≤◌, ℕ, sym, ◌∙◌, ap, subst, inl, inr, arith, bit_and, bit_or, w64, min, max, add_comm, lit<}
use Rattle.std.specs.Int.{bit_at}
use Rattle.std.proofs.lemmas.Nat.{and_mask, mod_below, pow_pos, pow-add, shr-shr, shr_split, shl_whole, shl_below, and_le_l, or_lt}
use Rattle.std.proofs.Math.Nat.{pow-le-pow_right}
use Rattle.std.proofs.lemmas.Nat.Bits.{ones_shr, bit_at_cat_low, bit_at_cat_high, bit_at_above, bit_at_and, bit_at_or, bit_at_not, bit_at-lt, bit_at-zero, bit_at_mask_below, bit_at_mask_inside, bit_at_mask_above, same_from_bits}
use Rattle.std.proofs.lemmas.Bool.{cases_lt}
use Rattle.iom_bits.specs.Bits.{field_of, with_field_of, IsField, ReplacesField}

-- the bits of a word shifted down
pub bit_at-shr : (word low i : ℕ) → bit_at (word / 2 ^ low) i ≡ bit_at word (low + i)
bit_at-shr word low i = ap (λ n. n % 2) (shr-shr word low i)

-- the low bits of a word
pub bit_at-low : (word count i : ℕ) → i < count → bit_at (word % 2 ^ count) i ≡ bit_at word i
bit_at-low word count i below =
    sym (bit_at_cat_low (word / 2 ^ count) count (word % 2 ^ count) i below) ∙ ap (λ n. bit_at n i) (shr_split word count)

pub field_is : (word low width : ℕ) → IsField word low width (field_of word low width)
field_is word low width = record {
  fits = mod_below (word / 2 ^ low) (2 ^ width) (pow_pos width);
  bits = λ i below. bit_at-low (word / 2 ^ low) width i below ∙ bit_at-shr word low i;
}

pub field_by_mask : (word low width : ℕ) → 1 ≤ width → low + width ≤ 64 →
    bit_and (word / 2 ^ low) (18446744073709551615 / 2 ^ (64 - width)) ≡ field_of word low width
field_by_mask word low width some within =
    let back : 64 - (64 - width) ≡ width = omega arith in
    let ones : 18446744073709551615 / 2 ^ (64 - width) ≡ 2 ^ width - 1 = ones_shr 64 (64 - width) (omega arith) ∙ ap (λ n. 2 ^ n - 1) back in
    ap (bit_and (word / 2 ^ low)) ones ∙ and_mask (word / 2 ^ low) width

-- two words that replace the same bits of a word by the same value are equal
pub replaced_once : (old low width value a b : ℕ) →
    ReplacesField old low width value a → ReplacesField old low width value b → a ≡ b
replaced_once old low width value a b p q = same_from_bits a b (λ i.
    elim (cases_lt i low) as (λ _. bit_at a i ≡ bit_at b i) [
      | inl below ↦ p.below i below ∙ sym (q.below i below)
      | inr from ↦ elim (cases_lt i (low + width)) as (λ _. bit_at a i ≡ bit_at b i) [
        | inl inside ↦
            let place : low + (i - low) ≡ i = omega arith in
            let same : bit_at a (low + (i - low)) ≡ bit_at b (low + (i - low)) =
            p.inside (i - low) (omega arith) ∙ sym (q.inside (i - low) (omega arith)) in
            subst (λ (n : ℕ). bit_at a n ≡ bit_at b n) place same
        | inr above ↦ p.above i above ∙ sym (q.above i above)
      ]
    ])

pub with_field_is : (word low width value : ℕ) → value < 2 ^ width →
    ReplacesField word low width value (with_field_of word low width value)
with_field_is word low width value fits =
    let high : ℕ = word / 2 ^ (low + width) in
    let rest : word % 2 ^ low < 2 ^ low = mod_below word (2 ^ low) (pow_pos low) in
    record {
      below = λ i h. bit_at_cat_low (high * 2 ^ width + value) low (word % 2 ^ low) i h ∙ bit_at-low word low i h;
      inside = λ i h.
          let back : low + i - low ≡ i = omega arith in
          bit_at_cat_high (high * 2 ^ width + value) low (word % 2 ^ low) (low + i) rest (omega arith)
          ∙ ap (bit_at (high * 2 ^ width + value)) back ∙ bit_at_cat_low high width value i h;
      above = λ i h.
          let back : low + width + (i - low - width) ≡ i = omega arith in
          bit_at_cat_high (high * 2 ^ width + value) low (word % 2 ^ low) i rest (omega arith)
          ∙ bit_at_cat_high high width value (i - low) fits (omega arith)
          ∙ bit_at-shr word (low + width) (i - low - width) ∙ ap (bit_at word) back;
    }

one_less_times : (k n m : ℕ) → k + 1 ≡ n → k * m ≡ n * m - m
one_less_times k n m e = rw (← e) (omega arith)

mask_is : (low width : ℕ) → 1 ≤ width → low + width ≤ 64 →
    18446744073709551615 / 2 ^ (64 - width) * 2 ^ low % 18446744073709551616 ≡ 2 ^ (low + width) - 2 ^ low
mask_is low width some within =
    let back : 64 - (64 - width) ≡ width = omega arith in
    let ones : 18446744073709551615 / 2 ^ (64 - width) ≡ 2 ^ width - 1 = ones_shr 64 (64 - width) (omega arith) ∙ ap (λ n. 2 ^ n - 1) back in
    let positive : 0 < 2 ^ width = pow_pos width in
    let whole : (2 ^ width - 1) * 2 ^ low % 2 ^ 64 ≡ (2 ^ width - 1) * 2 ^ low = shl_whole (2 ^ width - 1) width low 64 (omega arith) (omega arith) in
    let product : (2 ^ width - 1) * 2 ^ low ≡ 2 ^ width * 2 ^ low - 2 ^ low = one_less_times (2 ^ width - 1) (2 ^ width) (2 ^ low) (omega arith) in
    let sum : 2 ^ (low + width) ≡ 2 ^ low * 2 ^ width = pow-add 2 low width in
    ap (λ n. n * 2 ^ low % 18446744073709551616) ones ∙ whole ∙ product ∙ omega arith

-- a value shifted to its place
shifted_below : (value low i : ℕ) → i < low → bit_at (value * 2 ^ low) i ≡ 0
shifted_below value low i h = ap (λ n. bit_at n i) (omega arith) ∙ bit_at_cat_low value low 0 i h ∙ bit_at-zero i

shifted_from : (value low i : ℕ) → low ≤ i → bit_at (value * 2 ^ low) i ≡ bit_at value (i - low)
shifted_from value low i h =
    let plus : value * 2 ^ low ≡ value * 2 ^ low + 0 = omega arith in
    ap (λ n. bit_at n i) plus ∙ bit_at_cat_high value low 0 i (pow_pos low) h

-- the bit of a word with a mask's bits cleared and a value's bits set
masked_bit : (word mask put i : ℕ) → mask < 2 ^ 64 → i < 64 →
    bit_at (bit_or (bit_and word (18446744073709551615 - mask)) put) i ≡ max (min (bit_at word i) (1 - bit_at mask i)) (bit_at put i)
masked_bit word mask put i wide inside =
    bit_at_or (bit_and word (18446744073709551615 - mask)) put i
    ∙ ap (λ n. max n (bit_at put i)) (bit_at_and word (18446744073709551615 - mask) i
    ∙ ap (min (bit_at word i)) (bit_at_not w64 mask i wide inside))

masked_above : (word mask put i : ℕ) → word < 2 ^ 64 → put < 2 ^ 64 → 64 ≤ i →
    bit_at (bit_or (bit_and word (18446744073709551615 - mask)) put) i ≡ bit_at word i
masked_above word mask put i wide fits above =
    let kept : bit_and word (18446744073709551615 - mask) < 2 ^ 64 = omega (arith, and_le_l word (18446744073709551615 - mask)) in
    bit_at_above (bit_or (bit_and word (18446744073709551615 - mask)) put) 64 i (or_lt 64 _ _ kept fits) above
    ∙ sym (bit_at_above word 64 i wide above)

pub with_field_by_mask : (word low width value : ℕ) → word < 2 ^ 64 → 1 ≤ width → low + width ≤ 64 → value < 2 ^ width →
    ReplacesField word low width value (bit_or (bit_and word (18446744073709551615 - 18446744073709551615 / 2 ^ (64 - width) * 2 ^ low % 18446744073709551616)) (value * 2 ^ low % 18446744073709551616))
with_field_by_mask word low width value wide some within fits =
    let mask : ℕ = 2 ^ (low + width) - 2 ^ low in
    let place : ℕ = value * 2 ^ low in
    let sum : 2 ^ (low + width) ≡ 2 ^ low * 2 ^ width = pow-add 2 low width in
    let top : 2 ^ (low + width) ≤ 2 ^ 64 = pow-le-pow_right (lit< tt) within in
    let positive : 0 < 2 ^ low = pow_pos low in
    let small : mask < 2 ^ 64 = omega arith in
    let shifted : place < 2 ^ (width + low) = shl_below value width low fits in
    let room : place < 2 ^ 64 = omega (arith, ap (λ n. 2 ^ n) (add_comm width low)) in
    rw (mask_is low width some within, shl_whole value width low 64 fits (omega arith)) record {
      below = λ i h.
          let bit : bit_at word i < 2 = bit_at-lt word i in
          let out : bit_at mask i ≡ 0 = bit_at_mask_below low (low + width) i h in
          let none : bit_at place i ≡ 0 = shifted_below value low i h in
          masked_bit word mask place i small (omega arith) ∙ omega arith;
      inside = λ i h.
          let bit : bit_at value i < 2 = bit_at-lt value i in
          let set : bit_at mask (low + i) ≡ 1 = bit_at_mask_inside low (low + width) (low + i) (omega arith) (omega arith) in
          let back : low + i - low ≡ i = omega arith in
          let there : bit_at place (low + i) ≡ bit_at value i = shifted_from value low (low + i) (omega arith) ∙ ap (bit_at value) back in
          masked_bit word mask place (low + i) small (omega arith) ∙ omega arith;
      above = λ i h.
          let bit : bit_at word i < 2 = bit_at-lt word i in
          let out : bit_at mask i ≡ 0 = bit_at_mask_above low (low + width) i h in
          let none : bit_at place i ≡ 0 = shifted_from value low i (omega arith) ∙ bit_at_above value width (i - low) fits (omega arith) in
          elim (cases_lt i 64) as (λ _. bit_at (bit_or (bit_and word (18446744073709551615 - mask)) place) i ≡ bit_at word i) [
            | inl within_word ↦ masked_bit word mask place i small within_word ∙ omega arith
            | inr beyond ↦ masked_above word mask place i wide room beyond
          ];
    }
