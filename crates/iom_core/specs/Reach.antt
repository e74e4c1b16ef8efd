-- What a step may change, what an access takes, and what a refusal leaves.
use Rattle.std.specs.Prelude.{ℕ, ◌≡◌, ◌⊎◌, ◌+◌, ◌%◌, ◌&&◌, Bool, true, false, List, [], ◌∷◌, ◌++◌, map, if◌then◌else◌, length, slice_get, Option, Some, None, Result, Ok, Err, IfSome}
use Rattle.std.specs.Option.{option_map}
use Rattle.iom_bits.specs.Bytes.{bytes_of_number}
use Rattle.iom_bits.specs.Features.{has_messages}
use Rattle.iom_mem.specs.Memory.{Memory, bytes_at}
use Rattle.iom_messages.specs.Messages.{Messages, is_message, message_of, posted}
use Rattle.iom_regs.specs.Table.{Registers, entries_of}
use Rattle.iom_regs.specs.declared.vectors.MsiVector.{MsiVector}
pub use Rattle.iom_signals.specs.Changes.{ChangesOnly, Span}
use Rattle.iom_signals.specs.Reach.{KeepsButOwed, SendsOf, message_span, next_records, signal_spans}
use Rattle.iom_queue.specs.Delivery.{KeepsOtherRegisters}
use Rattle.iom_queue.specs.declared.command.Command.{Command}
use Rattle.iom_queue.specs.declared.command.Command.TheVariants.{Fence}
use Rattle.iom_virtq.specs.Bus.{Ask, Read, Write, BusReply, is_granted}
use Rattle.iom_blk.specs.Device.{Device}
use Rattle.iom_blk.specs.Phases.{is_broken, moved_of, took}
use Rattle.iom_core.specs.State.{State, Machine}
use Rattle.iom_core.specs.declared.access.Denial.{Denial}
use Rattle.iom_core.specs.Table.{Asking, acted, address_in, answer_of, asked, executed}
use Rattle.iom_core.specs.declared.step.Step.{Step}
use Rattle.iom_core.specs.declared.step.Step.TheVariants as step
use Rattle.iom_core.specs.declared.step.Answer.{Answer}
use Rattle.iom_core.specs.declared.step.Answer.TheVariants as answer

-- an access changes the bytes that it may write; where it is denied, those of the fault queue's next record
abbrev pub span_to : Machine → Ask → Result ℕ Denial → List Span
span_to m (Read iova count) (Ok addr) = []
span_to m (Write iova bytes) (Ok addr) = record { addr = addr; count = length bytes } ∷ []
span_to m (Read iova count) (Err denial) = next_records 1 m.registers
span_to m (Write iova bytes) (Err denial) = next_records 1 m.registers

abbrev pub span_of_access : State → Option Asking → List Span
span_of_access state None = []
span_of_access state (Some asking) = span_to state.machine asking.ask (address_in state asking)

-- a fence changes the four bytes of its DATA
abbrev pub span_of_command : Option Command → List Span
span_of_command (Some (Fence true wsi pr pw value addr)) = record { addr = addr; count = 4 } ∷ []
span_of_command _ = []

-- what a step's row may change of memory: a store's bytes, a command's, and those of the access that a device makes
abbrev pub span_of : State → Step → List Span
span_of state (step.Store addr size value) = record { addr = addr; count = size } ∷ []
span_of state step.Command = span_of_command (executed state step.Command)
span_of state taken = span_of_access state (asked state taken)

-- The steps that may raise an interrupt: a write of a register, a command, and an access that is denied.
abbrev pub is_denied : Result ℕ Denial → Bool
is_denied (Ok addr) = false
is_denied (Err denial) = true

abbrev pub raises_by : State → Option Asking → Bool
raises_by state None = false
raises_by state (Some asking) = is_denied (address_in state asking)

unfoldable pub may_raise : State → Step → Bool
may_raise state (step.RegWrite off size value) = true
may_raise state step.Command = true
may_raise state taken = raises_by state (asked state taken)

-- what its interrupts by message may change of memory, by the registers after its row
abbrev pub interrupt_spans : Bool → Registers → List Span
interrupt_spans raises registers = if raises && has_messages registers.features then signal_spans registers else []

abbrev pub spans_of : State → Step → List Span
spans_of state taken = span_of state taken ++ interrupt_spans (may_raise state taken) (acted state taken).state.machine.registers

-- nothing is sent, or these bytes are, as a message to that address
abbrev pub SendsAtMost : ℕ → List ℕ → Messages → Messages → Type 0
SendsAtMost addr bytes old new =
    (new ≡ old) ⊎ ((is_message old addr (length bytes) ≡ true) × (new ≡ posted (message_of addr bytes) old))

-- an access sends at most the bytes that it writes, and a fence its DATA
abbrev pub SendsAt : Ask → Result ℕ Denial → Messages → Messages → Type 0
SendsAt (Read iova count) led_to old new = new ≡ old
SendsAt (Write iova bytes) (Ok addr) old new = SendsAtMost addr bytes old new
SendsAt (Write iova bytes) (Err denial) old new = new ≡ old

abbrev pub SendsBy : State → Option Asking → Messages → Messages → Type 0
SendsBy state None old new = new ≡ old
SendsBy state (Some asking) old new = SendsAt asking.ask (address_in state asking) old new

abbrev pub SendsByCommand : Option Command → Messages → Messages → Type 0
SendsByCommand (Some (Fence true wsi pr pw value addr)) old new = SendsAtMost addr (bytes_of_number 4 value) old new
SendsByCommand _ old new = new ≡ old

abbrev pub SendsAlone : State → Step → Messages → Messages → Type 0
SendsAlone state step.Command old new = SendsByCommand (executed state step.Command) old new
SendsAlone state taken old new = SendsBy state (asked state taken) old new

-- interrupts send at most two messages, each of a vector
abbrev pub MaySend : Bool → List MsiVector → Messages → Messages → Type 0
MaySend true table old new = SendsOf table 2 old new
MaySend false table old new = new ≡ old

-- what a step sends: by its row, and then by its interrupts
pub record Sends (state : State) (taken : Step) (new : Messages) : Type 0 where
  pub alone : SendsAlone state taken state.messages (acted state taken).state.messages
  pub signals : MaySend (may_raise state taken && has_messages (acted state taken).state.machine.registers.features)
      (acted state taken).state.machine.registers.table (acted state taken).state.messages new

-- a read is answered the bytes at the address that it is led to
abbrev pub TakesAt : Memory → Ask → List ℕ → Result ℕ Denial → Type 0
TakesAt memory (Read iova count) bytes (Ok addr) = bytes_at memory addr count ≡ Some bytes
TakesAt memory (Read iova count) bytes (Err denial) = ⊥
TakesAt memory (Write iova given) bytes led_to = ⊥

abbrev pub TakesBy : Memory → Ask → Result ℕ Denial → Answer → Type 0
TakesBy memory ask led_to (answer.Bytes bytes) = TakesAt memory ask bytes.items led_to
TakesBy memory ask led_to _ = Unit {0}

abbrev pub Takes : State → Option Asking → Answer → Type 0
Takes state None given = Unit {0}
Takes state (Some asking) given = TakesBy state.machine.memory asking.ask (address_in state asking) given

-- no block device is another but the one at `dev`, and that one keeps its id
pub record ChangesDevice (dev : ℕ) (old new : List (ℕ × Device)) : Type 0 where
  pub others : (n : ℕ) → (n ≡ dev → ⊥) → slice_get new n ≡ slice_get old n
  pub id : option_map (λ (own : ℕ × Device). own.0) (slice_get new dev) ≡ option_map (λ (own : ℕ × Device). own.0) (slice_get old dev)

-- what a step may change of the block devices
abbrev pub KeepsDevices : Step → List (ℕ × Device) → List (ℕ × Device) → Type 0
KeepsDevices (step.DevWrite dev off size value) old new = ChangesDevice dev old new
KeepsDevices (step.Device dev) old new = ChangesDevice dev old new
KeepsDevices _ old new = new ≡ old

-- a reply to what is asked: where it grants a read, it has the bytes at the address that the access is led to
abbrev pub Carries : Memory → Ask → Result ℕ Denial → BusReply → Type 0
Carries memory (Read iova count) (Ok addr) reply = is_granted reply.access ≡ true → bytes_at memory addr count ≡ Some reply.bytes
Carries memory (Write iova bytes) (Ok addr) reply = Unit {0}
Carries memory (Read iova count) (Err denial) reply = is_granted reply.access ≡ false
Carries memory (Write iova bytes) (Err denial) reply = is_granted reply.access ≡ false

-- a block device goes on by the reply to what it asks
pub record GoesOn (memory : Memory) (ask : Ask) (led_to : Result ℕ Denial) (given : Answer) (old new : Device) : Type 0 where
  pub reply : BusReply
  pub carries : Carries memory ask led_to reply
  pub told : given ≡ answer_of (moved_of reply.access)
  pub took : new ≡ took old reply

abbrev pub GoesOnIn : State → Option Asking → Answer → Option (ℕ × Device) → Option (ℕ × Device) → Type 0
GoesOnIn state None given old new = new ≡ old
GoesOnIn state (Some asking) given (Some old) (Some new) =
    GoesOn state.machine.memory asking.ask (address_in state asking) given old.1 new.1
GoesOnIn state (Some asking) given _ _ = ⊥

-- a device whose access is denied, or led outside memory, breaks
abbrev pub IsBroken : Option (ℕ × Device) → Type 0
IsBroken slot = IfSome slot (λ own. is_broken own.1 ≡ true)

abbrev pub BreaksBy : Answer → Option (ℕ × Device) → Type 0
BreaksBy (answer.Denied cause) slot = IsBroken slot
BreaksBy answer.BusError slot = IsBroken slot
BreaksBy _ slot = Unit {0}

abbrev pub Breaks : Step → Answer → List (ℕ × Device) → Type 0
Breaks (step.Device dev) given new = BreaksBy given (slice_get new dev)
Breaks _ given new = Unit {0}

abbrev pub DeviceGoesOn : State → Step → Answer → List (ℕ × Device) → Type 0
DeviceGoesOn state (step.Device dev) given new =
    GoesOnIn state (asked state (step.Device dev)) given (slice_get state.devices dev) (slice_get new dev)
DeviceGoesOn state _ given new = Unit {0}

-- what a step reaches: the memory and the devices that it may change, the messages that it may send, and the bytes that its access takes
pub record Reaches (state : State) (taken : Step) (given : Answer) (new : State) : Type 0 where
  pub changes : ChangesOnly (spans_of state taken) state.machine.memory new.machine.memory
  pub sends : Sends state taken new.messages
  pub devices : KeepsDevices taken state.devices new.devices
  pub breaks : Breaks taken given new.devices
  pub goes_on : DeviceGoesOn state taken given new.devices
  pub takes : Takes state (asked state taken) given

-- the fault queue's tail stays, or goes on by one
abbrev pub MovesTail : Registers → Registers → Type 0
MovesTail old new = (new.fqt ≡ old.fqt) ⊎ (new.fqt ≡ (old.fqt + 1) % entries_of old.fqb)

-- what stands after the refusals, but for what interrupts by message leave
abbrev pub RefusesAlone : Answer → State → State → Type 0
RefusesAlone (answer.Denied cause) old new =
    KeepsOtherRegisters old.machine.registers new.machine.registers
    × ChangesOnly (next_records 1 old.machine.registers) old.machine.memory new.machine.memory
    × (new.messages ≡ old.messages)
    × MovesTail old.machine.registers new.machine.registers
RefusesAlone answer.BusError old new =
    (new.machine.memory ≡ old.machine.memory) × (new.machine.registers ≡ old.machine.registers) × (new.messages ≡ old.messages)
RefusesAlone answer.BadAccess old new = new ≡ old
RefusesAlone answer.NoDevice old new = new ≡ old
RefusesAlone answer.Misuse old new = new ≡ old
RefusesAlone _ old new = Unit {0}

-- What a denial leaves, where interrupts may be messages: all but the fault queue's registers, ipsr, what the vectors owe, the bytes of three
-- records, and messages, in memory or sent; else all but the fault queue's registers, ipsr and the bytes of one record.
abbrev pub DenialLeaves : Bool → State → State → Type 0
DenialLeaves true old new =
    KeepsButOwed old.machine.registers new.machine.registers
    × ChangesOnly (map message_span old.machine.registers.table ++ next_records 3 old.machine.registers) old.machine.memory new.machine.memory
    × SendsOf old.machine.registers.table 2 old.messages new.messages
DenialLeaves false old new =
    KeepsOtherRegisters old.machine.registers new.machine.registers
    × ChangesOnly (next_records 1 old.machine.registers) old.machine.memory new.machine.memory
    × (new.messages ≡ old.messages)

-- what stands after the refusals
abbrev pub Refuses : Answer → State → State → Type 0
-- all but that, the caches and a device that breaks
Refuses (answer.Denied cause) old new = DenialLeaves (has_messages old.machine.registers.features) old new
-- all but the caches and a device that breaks
Refuses answer.BusError old new =
    (new.machine.memory ≡ old.machine.memory) × (new.machine.registers ≡ old.machine.registers) × (new.messages ≡ old.messages)
-- all
Refuses answer.BadAccess old new = new ≡ old
Refuses answer.NoDevice old new = new ≡ old
Refuses answer.Misuse old new = new ≡ old
-- it was no refusal
Refuses _ old new = Unit {0}
