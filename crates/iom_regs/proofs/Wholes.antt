-- Eight bytes that may be accessed are one register, or nothing.
use Rattle.std.proofs.Common.{◌≡◌, ◌+◌, ◌%◌, ◌==◌, ◌<◌, ◌≤◌, ◌||◌, ℕ, true, false, inl, inr, arith}
use Rattle.std.proofs.lemmas.Bool.{cases_lt}
use Rattle.std.proofs.lemmas.Grind.{common_steps}
use Rattle.iom_bits.specs.Features.{Features, has_messages}
use Rattle.iom_regs.specs.Table.{IsOneRegister, Slot, Free, is_legal, named_or, slot_at, table_slot}

in_table : (features : Features) (off : ℕ) → off % 8 ≡ 0 → (has_messages features ≡ true → 768 ≤ off → off < 1024 → (off % 16 == 8) ≡ false) →
    IsOneRegister (table_slot features off) (table_slot features (off + 4))
unfolding table_slot
in_table features off aligned apart = grind (arith, common_steps, aligned, apart)

low : (features : Features) (off : ℕ) → off < 768 → table_slot features off ≡ Free
unfolding table_slot
low features off below = grind (arith, common_steps, below)

high : (features : Features) (off : ℕ) → 768 ≤ off → slot_at features off ≡ table_slot features off
high features off above = grind (arith, common_steps, above)

aligned : (features : Features) (off : ℕ) → is_legal features off 8 ≡ true → off % 8 ≡ 0
aligned features off legal = grind (arith, legal)

apart : (features : Features) (off : ℕ) → is_legal features off 8 ≡ true → has_messages features ≡ true → 768 ≤ off → off < 1024 → (off % 16 == 8) ≡ false
apart features off legal messages above within = grind (arith, legal, messages, above, within)

alone : (features : Features) (off : ℕ) → is_legal features off 8 ≡ true →
    (off == 8 || off == 32 || off == 48 || off == 72 || off == 80) ≡ false
alone features off legal = grind (arith, legal)

below_table : (off : ℕ) (first second : Slot) → off % 8 ≡ 0 → (off == 8 || off == 32 || off == 48 || off == 72 || off == 80) ≡ false →
    first ≡ Free → second ≡ Free → IsOneRegister (named_or first off) (named_or second (off + 4))
below_table off first second aligned alone one other = grind (arith, common_steps, aligned, alone, one, other)

pub one_register : (features : Features) (off : ℕ) → is_legal features off 8 ≡ true → IsOneRegister (slot_at features off) (slot_at features (off + 4))
one_register features off legal = elim (cases_lt off 768) as (λ _. IsOneRegister (slot_at features off) (slot_at features (off + 4))) [
  | inl below ↦
      let by_eight : off % 8 ≡ 0 = aligned features off legal in
      let further : off + 4 < 768 = omega arith in
      below_table off (table_slot features off) (table_slot features (off + 4)) by_eight (alone features off legal) (low features off below) (low features (off + 4) further)
  | inr above ↦
      let further : 768 ≤ off + 4 = omega arith in
      rw (high features off above, high features (off + 4) further) (in_table features off (aligned features off legal) (apart features off legal))
]
