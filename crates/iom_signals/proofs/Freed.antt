-- A write that lets a message go raises nothing.
use Rattle.std.proofs.Common.{◌≡◌, ◌∙◌, ◌-◌, ◌/◌, ◌%◌, ◌<◌, ◌≤◌, ◌&&◌, ◌==◌, ℕ, Bool, true, false, not, Some, None, if◌then◌else◌, refl, sym, ap, arith}
use Rattle.std.specs.Prelude.{IfSome, slice_set}
use Rattle.std.proofs.lemmas.Grind.{common_steps}
use Rattle.iom_bits.specs.Bits.{has_bit}
use Rattle.iom_bits.specs.Features.{Features, has_messages}
use Rattle.iom_regs.specs.Interrupts.{freed, is_control_at, pending_left}
use Rattle.iom_regs.specs.Table.{MsiControl, Registers, Whole, after_write, controlled, slot_at, table_slot, with_access, with_pending, with_vector, written_at, written_wide}
use Rattle.iom_regs.specs.Vectors.{is_vector, vector_at}
use Rattle.iom_regs.specs.declared.vectors.MsiVector.{MsiVector}

high : (features : Features) (off : ℕ) → 768 ≤ off → slot_at features off ≡ table_slot features off
high features off above = grind (arith, above)

-- what is at the register of a vector that masks it
control_parts : (features : Features) (off : ℕ) → is_control_at features off ≡ true → (has_messages features ≡ true) × (768 ≤ off) × (off < 1024) × (off % 16 ≡ 12)
control_parts features off at = (grind (arith, common_steps, at), grind (arith, common_steps, at), grind (arith, common_steps, at), grind (arith, common_steps, at))

control_slot : (features : Features) (off : ℕ) → is_control_at features off ≡ true → slot_at features off ≡ Whole (MsiControl ((off - 768) / 16))
unfolding table_slot
control_slot features off at =
    let parts = control_parts features off at in
    high features off parts.1 ∙ grind (arith, common_steps, parts.0, parts.1, parts.2, parts.3)

abbrev ipsr_of : Registers → ℕ
ipsr_of r = r.ipsr

vector_pending : (x : ℕ) (vector : MsiVector) (r : Registers) → with_pending r ≡ r → (with_pending (with_vector x vector r)).ipsr ≡ r.ipsr
vector_pending x vector r settled = elim (is_vector r.features x) as (λ b. ipsr_of (with_pending (if b then record r { table = slice_set r.table x vector } else r)) ≡ r.ipsr) [
  | true ↦ ap ipsr_of settled
  | false ↦ ap ipsr_of settled
]

pending_as_was : (r : Registers) (off size value : ℕ) → 768 ≤ off → pending_left r off size value ≡ r.ipsr
pending_as_was r off size value above = grind (arith, common_steps, above)

control_written : (r : Registers) (off size value : ℕ) → with_pending r ≡ r → (size == 4) ≡ true → is_control_at r.features off ≡ true →
    (after_write r off size value).ipsr ≡ pending_left r off size value
control_written r off size value settled four at =
    let x = (off - 768) / 16 in
    let access : with_access r off size value ≡ with_vector x (controlled value (vector_at r.table x)) r =
    ap (λ b. if b then written_at (slot_at r.features off) value r else written_wide (slot_at r.features off) value r) four
    ∙ ap (λ slot. written_at slot value r) (control_slot r.features off at) in
    ap (λ (s : Registers). (with_pending s).ipsr) access ∙ vector_pending x _ r settled
    ∙ sym (pending_as_was r off size value (control_parts r.features off at).1)

both_hold : (a b c d : Bool) → (a && b && c && d) ≡ true → (a ≡ true) × (b ≡ true)
both_hold true true c d all = (refl, refl)
both_hold true false c d all = absurd (cc)
both_hold false b c d all = absurd (cc)

pub freed_alone : (r : Registers) (off size value : ℕ) → with_pending r ≡ r →
    IfSome (freed r off size value) (λ _. (after_write r off size value).ipsr ≡ pending_left r off size value)
freed_alone r off size value settled =
    let is_freed = size == 4 && is_control_at r.features off && not (has_bit value 0) && (vector_at r.table ((off - 768) / 16)).owed in
    let Goal : Bool → Type 0 = λ b. is_freed ≡ b →
    IfSome (if b then Some ((off - 768) / 16) else None) (λ _. (after_write r off size value).ipsr ≡ pending_left r off size value) in
    let by_freed : (b : Bool) → Goal b = λ b. elim b as Goal [
      | true ↦ λ is.
          let parts = both_hold (size == 4) (is_control_at r.features off) (not (has_bit value 0)) (vector_at r.table ((off - 768) / 16)).owed is in
          control_written r off size value settled parts.0 parts.1
      | false ↦ λ is. tt
    ] in
    by_freed is_freed refl
