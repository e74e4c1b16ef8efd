-- Interrupts by message: RISC-V IOMMU Architecture 1.0, "Interrupt pending status register (ipsr)", "Interrupt-cause-to-vector register
-- (icvec)", "MSI configuration table (msi_cfg_tbl)" and "Fault/Event-Queue (FQ)", cause 273.
use Rattle.std.specs.Prelude.{ℕ, ◌&&◌, Bool, false, not, List, Option, Some, None, if◌then◌else◌}
use Rattle.iom_bits.specs.Bits.{has_bit}
use Rattle.iom_bits.specs.Bytes.{bytes_of_number}
use Rattle.iom_bits.specs.Features.{has_messages}
use Rattle.iom_mem.specs.Memory.{Memory}
use Rattle.iom_messages.specs.Messages.{Messages, can_put, memory_put, messages_put}
use Rattle.iom_queue.specs.Delivery.{delivered}
use Rattle.iom_queue.specs.declared.record.Record.{Record}
use Rattle.iom_regs.specs.Interrupts.{is_wired, owing, vector_in, vector_of}
use Rattle.iom_regs.specs.Table.{Registers}
use Rattle.iom_regs.specs.declared.vectors.MsiVector.{MsiVector}
use Rattle.iom_regs.specs.declared.views.Which.{Which}
use Rattle.iom_regs.specs.declared.views.Which.TheVariants as which
use Rattle.iom_signals.specs.declared.signalling.Noted.{Noted}

-- what an interrupt may change: the registers, memory, and the messages that were sent
pub record Outside : Type 0 where
  pub registers : Registers
  pub memory : Memory
  pub messages : Messages

abbrev pub outside : Registers → Memory → Messages → Outside
outside registers memory messages = record { registers = registers; memory = memory; messages = messages }

-- the record of a message that can't be written: no device made it, and its address is iotval
abbrev pub refusal : ℕ → Record
refusal addr = record {
  cause = 273;
  pid = 0;
  pv = false;
  privileged = false;
  ttyp = 0;
  did = 0;
  iotval = addr;
  iotval2 = 0;
}

abbrev pub bytes_of : MsiVector → List ℕ
bytes_of vector = bytes_of_number 4 vector.value

-- msi_data is written at msi_addr, to memory or as a message; where that can't be, a record says so
abbrev pub sent : MsiVector → Outside → Outside
sent vector o =
    if can_put o.memory o.messages vector.addr (bytes_of vector)
    then record o { memory = memory_put o.memory vector.addr (bytes_of vector); messages = messages_put o.memory o.messages vector.addr (bytes_of vector) }
    else record o {
      registers = (delivered o.registers o.memory (refusal vector.addr)).registers;
      memory = (delivered o.registers o.memory (refusal vector.addr)).memory;
    }

-- the message of an interrupt: a masked vector owes it
abbrev pub signalled_by : ℕ → Option MsiVector → Outside → Outside
signalled_by x None o = o
signalled_by x (Some vector) o = if vector.masked then record o { registers = owing x o.registers } else sent vector o

-- an interrupt is pending that wasn't before, and it isn't one by wire
abbrev pub rises : ℕ → ℕ → Registers → Bool
rises before bit registers = not (is_wired registers) && has_bit registers.ipsr bit && not (has_bit before bit)

-- the bit of a queue's interrupt: cip and fip
abbrev pub bit_of : Which → ℕ
bit_of which.Commands = 0
bit_of which.Faults = 1

abbrev pub raised : ℕ → Which → Outside → Outside
raised before queue o =
    if rises before (bit_of queue) o.registers
    then signalled_by (vector_of o.registers queue) (vector_in o.registers (vector_of o.registers queue)) o
    else o

-- the message that a cleared mask lets go
abbrev pub let_go : Option MsiVector → Outside → Outside
let_go None o = o
let_go (Some vector) o = sent vector o

-- First a message that was owed, or that of cip: both never come together, since a write of a mask is no cause of cip.
abbrev pub by_freed : Option ℕ → ℕ → Outside → Outside
by_freed None before o = raised before which.Commands o
by_freed (Some x) before o = let_go (vector_in o.registers x) o

abbrev pub first_signalled : Noted → Outside → Outside
first_signalled noted o = by_freed noted.freed noted.before o

-- What a step signals, by what was noted before it. A record of a refused message may raise fip, whose message is the last: where that is
-- refused too, its record raises nothing more.
unfoldable pub signalled : Noted → Outside → Outside
signalled noted o =
    if has_messages o.registers.features then raised noted.before which.Faults (first_signalled noted o) else o
