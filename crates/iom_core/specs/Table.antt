-- What a step asks of the bus and executes; what it answers and what it leaves, one row a step, the tests of a row in their order.
use Rattle.std.specs.Prelude.{ℕ, ◌+◌, ◌*◌, ◌%◌, ◌^◌, ◌==◌, ◌&&◌, ◌||◌, Bool, true, false, not, Option, Some, None, Result, Ok, Err, List, [], length, slice_get, is_some, nat_lt, nat_le, if◌then◌else◌}
use Rattle.std.specs.Option.{option_map}
use Rattle.iom_bits.specs.Bytes.{number_of_bytes, bytes_of_number}
use Rattle.iom_bits.specs.Causes.{cause_number}
use Rattle.iom_bits.specs.declared.causes.Kind.{Kind}
use Rattle.iom_bits.specs.declared.causes.Kind.TheVariants as kind
use Rattle.iom_mem.specs.Memory.{Memory, bytes_at, put}
use Rattle.iom_messages.specs.Messages.{Messages}
use Rattle.iom_regs.specs.Busy.{is_busy_at, settled}
use Rattle.iom_regs.specs.Interrupts.{freed, pending_left}
use Rattle.iom_regs.specs.Table.{Registers, read, after_write, is_legal}
use Rattle.iom_regs.specs.declared.busy.Busy.{Busy}
use Rattle.iom_queue.specs.declared.command.Command.{Command}
use Rattle.iom_signals.specs.Signals.{Outside, outside, signalled}
use Rattle.iom_signals.specs.declared.signalling.Noted.{Noted}
use Rattle.iom_virtq.specs.Bus.{Ask, Read, Write, BusReply}
use Rattle.iom_virtq.specs.declared.access.Access.{Access}
use Rattle.iom_virtq.specs.declared.access.Access.TheVariants as access
use Rattle.iom_blk.specs.Device.{Device}
use Rattle.iom_blk.specs.Phases.{asks, moved_of, took}
use Rattle.iom_blk.specs.Registers.{is_legal as is_device_register, read as device_read, with_write as device_written}
use Rattle.iom_blk.specs.declared.want.Moved.{Moved}
use Rattle.iom_blk.specs.declared.want.Moved.TheVariants as moved
use Rattle.iom_core.specs.State.{State, Machine, device_id_end, with_device, with_machine, with_outside}
use Rattle.iom_core.specs.Access.{address_on, led, request_of, served, told_of}
use Rattle.iom_core.specs.declared.access.Denial.{Denial}
use Rattle.iom_core.specs.declared.access.Request.{Request}
use Rattle.iom_core.specs.Commands.{after_command, executed_by, fetched, is_taken, messages_after_command}
use Rattle.iom_core.specs.declared.step.Step.{Step}
use Rattle.iom_core.specs.declared.witness.Event.{Event}
use Rattle.iom_core.specs.declared.step.Step.TheVariants as step
use Rattle.iom_core.specs.declared.step.Answer.{Answer}
use Rattle.iom_core.specs.declared.step.Answer.TheVariants as answer

pub record Outcome : Type 0 where
  pub answer : Answer
  pub state : State

abbrev pub stays : State → Answer → Outcome
stays state given = record { answer = given; state = state }

-- the sizes of a hart's access
abbrev pub is_size : ℕ → Bool
is_size size = size == 1 || size == 2 || size == 4 || size == 8

abbrev pub is_aligned : ℕ → ℕ → Bool
is_aligned addr size = is_size size && addr % size == 0

abbrev pub fits : ℕ → ℕ → Bool
fits value size = nat_lt value (2 ^ (8 * size))

-- a number that is too wide for a register access of this size
abbrev pub overflows : ℕ → ℕ → Bool
overflows value size = is_size size && not (fits value size)

-- how many bytes a device's access has at most
abbrev pub most_bytes : ℕ
most_bytes = 64

-- a device id that fits, and 1 to 64 bytes within one page
abbrev pub is_device_access : ℕ → ℕ → ℕ → Bool
is_device_access did iova len = nat_lt did device_id_end && nat_lt 0 len && nat_le len most_bytes && nat_le (iova % 4096 + len) 4096

-- an access of no byte, by which a device asks for the translation and nothing else
abbrev pub access_of_none : ℕ → Kind → Ask
access_of_none iova kind.Read = Read iova 0
access_of_none iova kind.Write = Write iova []

-- what a device asks of the bus
pub record Asking : Type 0 where
  pub did : ℕ
  pub ask : Ask

abbrev pub asking_where : Bool → ℕ → Ask → Option Asking
asking_where legal did ask = if legal then Some (record { did = did; ask = ask }) else None

-- what a block device asks, with its own id
abbrev pub asking_for : ℕ → Ask → Asking
asking_for did ask = record { did = did; ask = ask }

abbrev pub asked_by : Option (ℕ × Device) → Option Asking
asked_by None = None
asked_by (Some own) = option_map (asking_for own.0) (asks own.1)

-- What a step asks of the bus; None: it makes no access, or is answered with a misuse.
unfoldable pub asked : State → Step → Option Asking
asked state (step.DmaRead did iova len) = asking_where (is_device_access did iova len) did (Read iova len)
asked state (step.DmaWrite did iova bytes) =
    asking_where (is_device_access did iova (length bytes.items)) did (Write iova bytes.items)
asked state (step.Translate did iova kind) = asking_where (nat_lt did device_id_end) did (access_of_none iova kind)
asked state (step.Device dev) = asked_by (slice_get state.devices dev)
asked state _ = None

-- what it asks of the IOMMU
abbrev pub request_in : Asking → Request
request_in asking = request_of asking.did asking.ask

abbrev pub request_of_step : State → Step → Option Request
request_of_step state taken = option_map request_in (asked state taken)

-- a witness after a step: after the access that the step makes, if it makes one
abbrev pub told_by_step : {S : Type 0} → (S → Event → S) → S → Machine → Option Asking → S
told_by_step next s m None = s
told_by_step next s m (Some asking) = told_of next s m (request_in asking)

-- The command that a step executes; None: it is no command step, or one that was idle, faulted, met an illegal command, or a
-- fence whose store could not be done.
unfoldable pub executed : State → Step → Option Command
executed state step.Command = executed_by state.machine state.messages
executed state _ = None

-- loads and stores of the hart
abbrev pub value_of : Option (List ℕ) → Answer
value_of (Some bytes) = answer.Value (number_of_bytes bytes)
value_of None = answer.BusError

unfoldable pub load : Memory → ℕ → ℕ → Answer
load memory addr size = if is_aligned addr size then value_of (bytes_at memory addr size) else answer.Misuse

-- what a store is answered, and memory after it
pub record Stored : Type 0 where
  pub answer : Answer
  pub memory : Memory

abbrev pub put_inside : Memory → ℕ → List ℕ → Stored
put_inside memory addr bytes =
    if is_some (bytes_at memory addr (length bytes))
    then record { answer = answer.Done; memory = put memory addr bytes }
    else record { answer = answer.BusError; memory = memory }

unfoldable pub store : Memory → ℕ → ℕ → ℕ → Stored
store memory addr size value =
    if is_aligned addr size && fits value size then put_inside memory addr (bytes_of_number size value)
    else record { answer = answer.Misuse; memory = memory }

-- registers of the IOMMU
abbrev pub value_or_bad : Option ℕ → Answer
value_or_bad (Some value) = answer.Value value
value_or_bad None = answer.BadAccess

unfoldable pub reg_read : Registers → ℕ → ℕ → Answer
reg_read registers off size = value_or_bad (read registers off size)

-- what a write of a register is answered, and the registers after it
pub record Written : Type 0 where
  pub answer : Answer
  pub registers : Registers

unfoldable pub reg_write : Registers → ℕ → ℕ → ℕ → Written
reg_write registers off size value =
    if overflows value size then record { answer = answer.Misuse; registers = registers }
    else if is_legal registers.features off size
    then record { answer = answer.Done; registers = after_write registers off size value }
    else record { answer = answer.BadAccess; registers = registers }

-- a busy register settles; one that isn't stays as it is
abbrev pub after_settling : Busy → Registers → Registers
after_settling register registers = if is_busy_at registers register then settled register registers else registers

-- accesses of a device
abbrev pub answer_to : Ask → Access → List ℕ → Answer
answer_to (Read iova count) access.Ok bytes = answer.Bytes (record { items = bytes })
answer_to (Write iova given) access.Ok bytes = answer.Done
answer_to (Read iova count) (access.Denied cause) bytes = answer.Denied (cause_number cause)
answer_to (Write iova given) (access.Denied cause) bytes = answer.Denied (cause_number cause)
answer_to (Read iova count) access.Outside bytes = answer.BusError
answer_to (Write iova given) access.Outside bytes = answer.BusError

abbrev pub answer_by_reply : Ask → BusReply → Answer
answer_by_reply ask reply = answer_to ask reply.access reply.bytes

abbrev pub probed : State → Option Asking → Outcome
probed state (Some asking) = record {
  answer = answer_by_reply asking.ask (served state.machine state.messages asking.did asking.ask).reply;
  state = with_outside state (served state.machine state.messages asking.did asking.ask).machine
      (served state.machine state.messages asking.did asking.ask).messages;
}
probed state None = stays state answer.Misuse

-- the physical address that an access is led to, or why it is denied
abbrev pub address_in : State → Asking → Result ℕ Denial
address_in state asking = address_on (led state.machine (request_in asking)).way (request_in asking).iova

-- a request for a translation is answered the address, also where that lies outside memory
abbrev pub answer_by_address : Result ℕ Denial → Answer
answer_by_address (Ok addr) = answer.Value addr
answer_by_address (Err denial) = answer.Denied (cause_number denial.cause)

abbrev pub translated : State → Option Asking → Outcome
translated state (Some asking) = record {
  answer = answer_by_address (address_in state asking);
  state = with_machine state (served state.machine state.messages asking.did asking.ask).machine;
}
translated state None = stays state answer.Misuse

-- a step of the command unit is done, also where it stops the queue
abbrev pub idle_or_done : Bool → Answer
idle_or_done false = answer.Idle
idle_or_done true = answer.Done

-- the state with other memory, or other registers
abbrev pub with_memory : State → Memory → State
with_memory state memory = with_machine state (record state.machine { memory = memory })

abbrev pub with_registers : State → Registers → State
with_registers state registers = with_machine state (record state.machine { registers = registers })

-- registers of a block device
abbrev pub dev_read : Option (ℕ × Device) → ℕ → ℕ → Answer
dev_read None off size = answer.NoDevice
dev_read (Some own) off size = value_or_bad (device_read own.1 off size)

-- what a write of a device's register is answered, and the device after it
pub record Handled : Type 0 where
  pub answer : Answer
  pub device : Device

unfoldable pub dev_write : Device → ℕ → ℕ → ℕ → Handled
dev_write device off size value =
    if overflows value size then record { answer = answer.Misuse; device = device }
    else if is_device_register off size
    then record { answer = answer.Done; device = device_written device off value }
    else record { answer = answer.BadAccess; device = device }

abbrev pub dev_written : State → ℕ → Option (ℕ × Device) → ℕ → ℕ → ℕ → Outcome
dev_written state dev None off size value = stays state answer.NoDevice
dev_written state dev (Some own) off size value = record {
  answer = (dev_write own.1 off size value).answer;
  state = with_device state dev own.0 (dev_write own.1 off size value).device;
}

-- what a step of a device returns, and the machine, the messages and the device after it: it makes the access that it asks for, or is
-- idle
pub record Moving : Type 0 where
  pub told : Moved
  pub machine : Machine
  pub messages : Messages
  pub device : Device

unfoldable pub moving : Machine → Messages → ℕ → Device → Option Ask → Moving
moving m messages did device None = record { told = moved.Idle; machine = m; messages = messages; device = device }
moving m messages did device (Some ask) = record {
  told = moved_of (served m messages did ask).reply.access;
  machine = (served m messages did ask).machine;
  messages = (served m messages did ask).messages;
  device = took device (served m messages did ask).reply;
}

abbrev pub answer_of : Moved → Answer
answer_of moved.Idle = answer.Idle
answer_of moved.Did = answer.Done
answer_of (moved.Denied cause) = answer.Denied (cause_number cause)
answer_of moved.Outside = answer.BusError

abbrev pub moves : State → ℕ → ℕ → Device → Outcome
moves state dev did device = record {
  answer = answer_of (moving state.machine state.messages did device (asks device)).told;
  state = with_device (with_outside state (moving state.machine state.messages did device (asks device)).machine
      (moving state.machine state.messages did device (asks device)).messages) dev did
      (moving state.machine state.messages did device (asks device)).device;
}

abbrev pub device_step : State → ℕ → Option (ℕ × Device) → Outcome
device_step state dev None = stays state answer.NoDevice
device_step state dev (Some own) = moves state dev own.0 own.1

-- the step table, but for the interrupts by message that a step raises
unfoldable pub acted : State → Step → Outcome
acted state (step.Load addr size) = stays state (load state.machine.memory addr size)
acted state (step.Store addr size value) = record {
  answer = (store state.machine.memory addr size value).answer;
  state = with_memory state (store state.machine.memory addr size value).memory;
}
acted state (step.RegRead off size) = stays state (reg_read state.machine.registers off size)
acted state (step.RegWrite off size value) = record {
  answer = (reg_write state.machine.registers off size value).answer;
  state = with_registers state (reg_write state.machine.registers off size value).registers;
}
acted state step.Command = record {
  answer = idle_or_done (is_taken (fetched state.machine));
  state = with_outside state (after_command state.machine state.messages) (messages_after_command state.machine state.messages);
}
acted state (step.Settle register) = record {
  answer = idle_or_done (is_busy_at state.machine.registers register);
  state = with_registers state (after_settling register state.machine.registers);
}
acted state (step.DmaRead did iova len) = probed state (asked state (step.DmaRead did iova len))
acted state (step.DmaWrite did iova bytes) = probed state (asked state (step.DmaWrite did iova bytes))
acted state (step.Translate did iova kind) = translated state (asked state (step.Translate did iova kind))
acted state (step.DevRead dev off size) = stays state (dev_read (slice_get state.devices dev) off size)
acted state (step.DevWrite dev off size value) = dev_written state dev (slice_get state.devices dev) off size value
acted state (step.Device dev) = device_step state dev (slice_get state.devices dev)

-- What is noted before a step: a write of a register may let go a message that is owed, and clear pending interrupts.
abbrev pub unwritten : Registers → Noted
unwritten registers = record { freed = None; before = registers.ipsr }

unfoldable pub noted_write : Registers → ℕ → ℕ → ℕ → Noted
noted_write registers off size value =
    if overflows value size then unwritten registers
    else if is_legal registers.features off size
    then record { freed = freed registers off size value; before = pending_left registers off size value }
    else unwritten registers

unfoldable pub noted : State → Step → Noted
noted state (step.RegWrite off size value) = noted_write state.machine.registers off size value
noted state _ = unwritten state.machine.registers

-- what interrupts by message leave of a state
abbrev pub outside_of : State → Outside
outside_of state = outside state.machine.registers state.machine.memory state.messages

abbrev pub with_outside_of : State → Outside → State
with_outside_of state left = with_outside state (record state.machine { registers = left.registers; memory = left.memory }) left.messages

unfoldable pub with_signals : Noted → State → State
with_signals noted state = with_outside_of state (signalled noted (outside_of state))

abbrev pub interrupted : State → Step → Outcome → Outcome
interrupted state taken outcome = record { answer = outcome.answer; state = with_signals (noted state taken) outcome.state }

-- the step table: a step's own row, and then the interrupts by message that it raises
unfoldable pub next : State → Step → Outcome
next state taken = interrupted state taken (acted state taken)
