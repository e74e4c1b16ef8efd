-- What becomes of a fault record: RISC-V IOMMU Architecture 1.0, "Fault/Event-Queue (FQ)" and "Fault-queue control and status".
use Rattle.std.specs.Prelude.{ℕ, ◌≡◌, ◌+◌, ◌*◌, ◌%◌, ◌==◌, ◌&&◌, ◌||◌, Bool, not, List, is_some, if◌then◌else◌}
use Rattle.std.specs.List.{flat_map}
use Rattle.iom_bits.specs.Bits.{has_bit, field_of}
use Rattle.iom_bits.specs.Bytes.{bytes_of_number}
use Rattle.iom_mem.specs.Memory.{Memory, bytes_at, put}
use Rattle.iom_regs.specs.Table.{Registers, is_on, entries_of, with_pending}
use Rattle.iom_regs.specs.Queues.{record_passed, with_fqof, with_fqmf}
use Rattle.iom_queue.specs.Records.{record_words}
use Rattle.iom_queue.specs.declared.record.Record.{Record}

-- the queue is off, or fqmf (8) or fqof (9) stands
abbrev pub is_stopped : Registers → Bool
is_stopped registers = not (is_on registers.fqcsr) || has_bit registers.fqcsr 8 || has_bit registers.fqcsr 9

-- the entry after the tail is the head
abbrev pub is_full : Registers → Bool
is_full registers = (registers.fqt + 1) % entries_of registers.fqb == registers.fqh

-- the physical address of the entry at the tail: the queue begins at a page's start, a record has 32 bytes
abbrev pub record_addr : Registers → ℕ
record_addr registers = field_of registers.fqb 10 44 * 4096 + registers.fqt * 32

-- each byte of that entry is in memory
abbrev pub is_in_memory : Registers → Memory → Bool
is_in_memory registers memory = is_some (bytes_at memory (record_addr registers) 32)

-- the bytes of the record's four words, the lowest first
unfoldable pub record_bytes : Record → List ℕ
record_bytes fault = flat_map (bytes_of_number 8) (record_words fault)

-- what a delivery leaves
pub record Delivery : Type 0 where
  pub registers : Registers
  pub memory : Memory

-- the first row that applies: stopped; full; outside memory; stored. The rule of pending interrupts follows each
unfoldable pub delivered : Registers → Memory → Record → Delivery
delivered registers memory fault =
    if is_stopped registers then record { registers = with_pending registers; memory = memory }
    else if is_full registers then record { registers = with_fqof registers; memory = memory }
    else if not (is_in_memory registers memory) then record { registers = with_fqmf registers; memory = memory }
    else record { registers = record_passed registers; memory = put memory (record_addr registers) (record_bytes fault) }

-- the last row applies
unfoldable pub is_stored : Registers → Memory → Bool
is_stored registers memory = not (is_stopped registers) && not (is_full registers) && is_in_memory registers memory

-- `new` differs from `old` in the fault queue's tail and flags and in the pending interrupts at most
pub record KeepsOtherRegisters (old new : Registers) : Type 0 where
  pub features : new.features ≡ old.features
  pub ddtp : new.ddtp ≡ old.ddtp
  pub acting : new.acting ≡ old.acting
  pub cqb : new.cqb ≡ old.cqb
  pub cqh : new.cqh ≡ old.cqh
  pub cqt : new.cqt ≡ old.cqt
  pub fqb : new.fqb ≡ old.fqb
  pub fqh : new.fqh ≡ old.fqh
  pub cqcsr : new.cqcsr ≡ old.cqcsr
  pub icvec : new.icvec ≡ old.icvec
  pub fctl : new.fctl ≡ old.fctl
  pub table : new.table ≡ old.table
