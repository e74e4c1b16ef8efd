-- What interrupts by message may change.
use Rattle.std.specs.Prelude.{ℕ, zero, suc, ◌≡◌, ◌+◌, ◌%◌, ◌≤◌, Bool, true, false, List, [], ◌∷◌, ◌++◌, length, map, All, slice_get, Some}
use Rattle.iom_mem.specs.Memory.{Memory}
use Rattle.iom_messages.specs.Messages.{Messages, message_of, posted}
use Rattle.iom_messages.specs.declared.messages.Message.{Message}
use Rattle.iom_queue.specs.Delivery.{KeepsOtherRegisters, record_addr}
use Rattle.iom_regs.specs.Table.{Registers, entries_of}
use Rattle.iom_regs.specs.declared.vectors.MsiVector.{MsiVector}
use Rattle.iom_signals.specs.Changes.{ChangesOnly, Span}
use Rattle.iom_signals.specs.Signals.{bytes_of}

-- the fault queue's next records, of 32 bytes each
abbrev pub record_span : Registers → Span
record_span registers = record { addr = record_addr registers; count = 32 }

abbrev pub next_records : ℕ → Registers → List Span
next_records zero registers = []
next_records (suc n) registers =
    record_span registers ∷ next_records n (record registers { fqt = (registers.fqt + 1) % entries_of registers.fqb })

-- the four bytes to which a vector's message is written
abbrev pub message_span : MsiVector → Span
message_span vector = record { addr = vector.addr; count = 4 }

-- interrupts may write their messages, and two records of messages that were refused
abbrev pub signal_spans : Registers → List Span
signal_spans registers = map message_span registers.table ++ next_records 2 registers

-- these messages are sent, one after the other
abbrev pub posted_all : List Message → Messages → Messages
posted_all [] messages = messages
posted_all (message ∷ more) messages = posted_all more (posted message messages)

-- it is the message of one of these vectors
pub record IsOneOf (table : List MsiVector) (message : Message) : Type 0 where
  pub x : ℕ
  pub vector : MsiVector
  pub there : slice_get table x ≡ Some vector
  pub same : message ≡ message_of vector.addr (bytes_of vector)

-- at most so many messages were sent, each of one of these vectors
pub record SendsOf (table : List MsiVector) (most : ℕ) (old new : Messages) : Type 0 where
  pub sent : List Message
  pub few : length sent ≤ most
  pub own : All (IsOneOf table) sent
  pub all : new ≡ posted_all sent old

-- a vector but for what it owes
abbrev pub settled_vector : MsiVector → MsiVector
settled_vector vector = record vector { owed = false }

-- `new` differs from `old` in the fault queue's tail and flags, in the pending interrupts and in what the vectors owe at most
pub record KeepsButOwed (old new : Registers) : Type 0 where
  pub others : KeepsOtherRegisters (record old { table = new.table }) new
  pub vectors : map settled_vector new.table ≡ map settled_vector old.table

-- what interrupts leave, where they may be messages; else nothing changes
pub record Signals (old new : Registers) (memory left : Memory) (before after : Messages) : Type 0 where
  pub changes : ChangesOnly (signal_spans old) memory left
  pub sends : SendsOf old.table 2 before after
  pub keeps : KeepsButOwed old new

abbrev pub MaySignal : Bool → Registers → Registers → Memory → Memory → Messages → Messages → Type 0
MaySignal true old new memory left before after = Signals old new memory left before after
MaySignal false old new memory left before after = (new ≡ old) × (left ≡ memory) × (after ≡ before)
