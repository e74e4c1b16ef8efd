-- What a delivery changes.
use Rattle.std.proofs.Common.{◌≡◌, ◌+◌, ◌%◌, ◌⊎◌, ℕ, [], ◌∷◌, length, Bool, true, false, not, if◌then◌else◌, refl, sym, ap, subst, inl, inr}
use Rattle.std.specs.Prelude.{is_some}
use Rattle.iom_mem.specs.Memory.{Memory, bytes_at, put}
use Rattle.iom_regs.specs.Table.{Registers, entries_of, with_pending}
use Rattle.iom_regs.specs.Queues.{record_passed, with_fqmf, with_fqof}
use Rattle.iom_queue.specs.Delivery.{Delivery, KeepsOtherRegisters, delivered, is_full, is_in_memory, is_stopped, record_addr, record_bytes}
use Rattle.iom_queue.specs.declared.record.Record.{Record}
use Rattle.iom_signals.specs.Changes.{ChangesOnly}
use Rattle.iom_signals.specs.Reach.{record_span}
use Rattle.iom_signals.proofs.Puts.{put_changes_only, same_memory}

-- A delivery.
pub record Delivers (registers : Registers) (memory : Memory) (left : Delivery) : Type 0 where
  pub others : KeepsOtherRegisters registers left.registers
  pub bytes : ChangesOnly (record_span registers ∷ []) memory left.memory
  pub tail : (left.registers.fqt ≡ registers.fqt) ⊎ (left.registers.fqt ≡ (registers.fqt + 1) % entries_of registers.fqb)

pub record_length : (fault : Record) → length (record_bytes fault) ≡ 32
unfolding record_bytes
record_length fault = refl

kept : (registers new : Registers) → new ≡ record registers { fqt = new.fqt; fqcsr = new.fqcsr; ipsr = new.ipsr } → KeepsOtherRegisters registers new
kept registers new same = record {
  features = ap (λ (r : Registers). r.features) same;
  ddtp = ap (λ (r : Registers). r.ddtp) same;
  acting = ap (λ (r : Registers). r.acting) same;
  cqb = ap (λ (r : Registers). r.cqb) same;
  cqh = ap (λ (r : Registers). r.cqh) same;
  cqt = ap (λ (r : Registers). r.cqt) same;
  fqb = ap (λ (r : Registers). r.fqb) same;
  fqh = ap (λ (r : Registers). r.fqh) same;
  cqcsr = ap (λ (r : Registers). r.cqcsr) same;
  icvec = ap (λ (r : Registers). r.icvec) same;
  fctl = ap (λ (r : Registers). r.fctl) same;
  table = ap (λ (r : Registers). r.table) same;
}

pub delivers : (registers : Registers) (memory : Memory) (fault : Record) → Delivers registers memory (delivered registers memory fault)
unfolding delivered
delivers registers memory fault =
    let same : ChangesOnly (record_span registers ∷ []) memory memory = same_memory memory _ in
    let Goal : Bool → Type 0 = λ there. is_in_memory registers memory ≡ there →
    Delivers registers memory (if not there then record { registers = with_fqmf registers; memory = memory }
    else record { registers = record_passed registers; memory = put memory (record_addr registers) (record_bytes fault) }) in
    let by_place : (there : Bool) → Goal there = λ there. elim there as Goal [
      | true ↦ λ is. record {
        others = kept registers _ refl;
        bytes = subst (λ (n : ℕ). ChangesOnly (record { addr = record_addr registers; count = n } ∷ []) memory (put memory (record_addr registers) (record_bytes fault)))
            (record_length fault)
            (put_changes_only memory (record_addr registers) (record_bytes fault)
            (subst (λ (n : ℕ). is_some (bytes_at memory (record_addr registers) n) ≡ true) (sym (record_length fault)) is));
        tail = inr refl;
      }
      | false ↦ λ is. record { others = kept registers _ refl; bytes = same; tail = inl refl }
    ] in
    elim (is_stopped registers) as (λ b. Delivers registers memory (if b then record { registers = with_pending registers; memory = memory }
    else if is_full registers then record { registers = with_fqof registers; memory = memory }
    else if not (is_in_memory registers memory) then record { registers = with_fqmf registers; memory = memory }
    else record { registers = record_passed registers; memory = put memory (record_addr registers) (record_bytes fault) })) [
      | true ↦ record { others = kept registers _ refl; bytes = same; tail = inl refl }
      | false ↦ elim (is_full registers) as (λ b. Delivers registers memory (if b then record { registers = with_fqof registers; memory = memory }
          else if not (is_in_memory registers memory) then record { registers = with_fqmf registers; memory = memory }
          else record { registers = record_passed registers; memory = put memory (record_addr registers) (record_bytes fault) })) [
            | true ↦ record { others = kept registers _ refl; bytes = same; tail = inl refl }
            | false ↦ by_place (is_in_memory registers memory) refl
          ]
    ]
