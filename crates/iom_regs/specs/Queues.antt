-- The registers that the queues change: "Command-queue control and status" and "Fault-queue control and status". Each change is
-- followed by the rule of pending interrupts.
use Rattle.std.specs.Prelude.{◌+◌, ◌%◌, ◌==◌, if◌then◌else◌}
use Rattle.std.specs.Int.{bit_at}
use Rattle.iom_bits.specs.Bits.{with_bit}
use Rattle.iom_regs.specs.Table.{Registers, entries_of, with_pending}

-- the command at the head is done
abbrev pub command_passed : Registers → Registers
command_passed r = with_pending (record r { cqh = (r.cqh + 1) % entries_of r.cqb })

-- the command queue couldn't be read, or a fence couldn't store
abbrev pub with_cqmf : Registers → Registers
with_cqmf r = with_pending (record r { cqcsr = with_bit r.cqcsr 8 })

-- the command at the head is illegal
abbrev pub with_cmd_ill : Registers → Registers
with_cmd_ill r = with_pending (record r { cqcsr = with_bit r.cqcsr 10 })

-- a fence asks for an interrupt
abbrev pub with_fence : Registers → Registers
with_fence r = with_pending (record r { cqcsr = with_bit r.cqcsr 11 })

-- a fault record is stored at the tail; with fie set this asks for an interrupt
abbrev pub tail_passed : Registers → Registers
tail_passed r = record r {
  fqt = (r.fqt + 1) % entries_of r.fqb;
  ipsr = if bit_at r.fqcsr 1 == 1 then with_bit r.ipsr 1 else r.ipsr;
}

abbrev pub record_passed : Registers → Registers
record_passed r = with_pending (tail_passed r)

-- a record met a full fault queue
abbrev pub with_fqof : Registers → Registers
with_fqof r = with_pending (record r { fqcsr = with_bit r.fqcsr 9 })

-- the fault queue couldn't be written
abbrev pub with_fqmf : Registers → Registers
with_fqmf r = with_pending (record r { fqcsr = with_bit r.fqcsr 8 })
