-- Reads of four bytes and of eight, by the eight aligned bytes around them.
use Rattle.std.proofs.Common.{◌≡◌, ◌≢◌, ◌+◌, ◌*◌, ◌/◌, ◌%◌, ◌^◌, ◌<◌, ℕ, true, Some, sym, ◌∙◌, ap, subst, inl, inr, arith}
use Rattle.std.proofs.lemmas.Bool.{cases_lt}
use Rattle.iom_bits.specs.Bits.{field_of}
use Rattle.iom_bits.specs.Features.{Features}
use Rattle.iom_regs.specs.Table.{Registers, is_legal, slot_at, shown_at, shown_wide, read}

eight_aligned : (features : Features) (off size : ℕ) → is_legal features off size ≡ true → size ≡ 8 → off % 8 ≡ 0
eight_aligned features off size legal is = grind arith

four_aligned : (features : Features) (off size : ℕ) → is_legal features off size ≡ true → size ≢ 8 → (size ≡ 4) × (off % 4 ≡ 0)
four_aligned features off size legal other = (grind arith, grind arith)

eight_shown : (shown : ℕ → ℕ) (off wide : ℕ) → off % 8 ≡ 0 → wide % 2 ^ 32 ≡ shown (off / 8 * 8) →
    wide / 2 ^ 32 ≡ shown (off / 8 * 8 + 4) → wide ≡ shown off + 2 ^ 32 * shown (off + 4)
eight_shown shown off wide aligned low high =
    let same : off / 8 * 8 ≡ off = omega arith in
    omega (arith, low ∙ ap shown same, high ∙ ap (λ n. shown (n + 4)) same)

four_shown : (shown : ℕ → ℕ) (off wide : ℕ) → wide < 2 ^ 64 → off % 4 ≡ 0 → wide % 2 ^ 32 ≡ shown (off / 8 * 8) →
    wide / 2 ^ 32 ≡ shown (off / 8 * 8 + 4) → field_of wide (off % 8 * 8) 32 ≡ shown off
four_shown shown off wide fits aligned low high =
    elim (cases_lt (off % 8) 4) as (λ _. field_of wide (off % 8 * 8) 32 ≡ shown off) [
      | inl below ↦
          let first : off % 8 ≡ 0 = omega arith in
          let same : off / 8 * 8 ≡ off = omega arith in
          ap (λ n. field_of wide (n * 8) 32) first ∙ omega (arith, low ∙ ap shown same)
      | inr above ↦
          let second : off % 8 ≡ 4 = omega arith in
          let same : off / 8 * 8 + 4 ≡ off = omega arith in
          ap (λ n. field_of wide (n * 8) 32) second ∙ omega (arith, high ∙ ap shown same)
    ]

pub read_wide : (r : Registers) (off size wide : ℕ) → is_legal r.features off size ≡ true → size ≡ 8 →
    wide % 2 ^ 32 ≡ shown_at r (slot_at r.features (off / 8 * 8)) → wide / 2 ^ 32 ≡ shown_at r (slot_at r.features (off / 8 * 8 + 4)) →
    Some wide ≡ read r off size
read_wide r off size wide legal is low high =
    let all : wide ≡ shown_wide r off =
    eight_shown (λ n. shown_at r (slot_at r.features n)) off wide (eight_aligned r.features off size legal is) low high in
    subst (λ (n : ℕ). is_legal r.features off n ≡ true → Some wide ≡ read r off n) (sym is) (λ h. rw h (ap Some all)) legal

pub read_four : (r : Registers) (off size wide value : ℕ) → wide < 2 ^ 64 → is_legal r.features off size ≡ true → size ≢ 8 →
    wide % 2 ^ 32 ≡ shown_at r (slot_at r.features (off / 8 * 8)) → wide / 2 ^ 32 ≡ shown_at r (slot_at r.features (off / 8 * 8 + 4)) →
    value ≡ field_of wide (off % 8 * 8) 32 → Some value ≡ read r off size
read_four r off size wide value fits legal other low high is =
    let four : (size ≡ 4) × (off % 4 ≡ 0) = four_aligned r.features off size legal other in
    let all : value ≡ shown_at r (slot_at r.features off) = is ∙ four_shown (λ n. shown_at r (slot_at r.features n)) off wide fits four.1 low high in
    subst (λ (n : ℕ). is_legal r.features off n ≡ true → Some value ≡ read r off n) (sym four.0) (λ h. rw h (ap Some all)) legal
