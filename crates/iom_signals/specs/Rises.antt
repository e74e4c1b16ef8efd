-- What signals do to ipsr: RISC-V IOMMU Architecture 1.0, "Interrupt pending status register (ipsr)". A bit that a change raises is told once,
-- and a refused message raises fip at most; so signals end.
use Rattle.std.specs.Prelude.{ℕ, ◌≡◌, ◌≤◌, ◌⊎◌, ◌&&◌, Bool, true, false, not, List, [], ◌∷◌, length, Option, Some, None, IfSome}
use Rattle.std.specs.List.{filter}
use Rattle.iom_bits.specs.Bits.{has_bit, with_bit}
use Rattle.iom_bits.specs.Features.{has_messages}
use Rattle.iom_messages.specs.Messages.{memory_put, messages_put}
use Rattle.iom_queue.specs.Delivery.{delivered}
use Rattle.iom_regs.specs.Interrupts.{is_wired, owing, vector_in, vector_of}
use Rattle.iom_regs.specs.Table.{Registers, with_pending}
use Rattle.iom_regs.specs.declared.vectors.MsiVector.{MsiVector}
use Rattle.iom_regs.specs.declared.views.Which.{Which}
use Rattle.iom_regs.specs.declared.views.Which.TheVariants as which
use Rattle.iom_signals.specs.Signals.{Outside, bit_of, bytes_of, let_go, refusal, signalled_by}
use Rattle.iom_signals.specs.declared.signalling.Noted.{Noted}

-- an interrupt's bit of ipsr was 0 before a change, and is 1 after it
abbrev pub has_risen : ℕ → ℕ → Which → Bool
has_risen before after queue = has_bit after (bit_of queue) && not (has_bit before (bit_of queue))

-- an interrupt is told: by the message of its vector
abbrev pub told : Which → Outside → Outside
told queue o = signalled_by (vector_of o.registers queue) (vector_in o.registers (vector_of o.registers queue)) o

abbrev pub all_told : List Which → Outside → Outside
all_told [] o = o
all_told (queue ∷ queues) o = all_told queues (told queue o)

-- those of cip and fip that pass a test are told, in this order, each once
abbrev pub told_in_order : (Which → Bool) → Outside → Outside
told_in_order test o = all_told (filter test (which.Commands ∷ which.Faults ∷ [])) o

-- before them goes the message that a change lets go
abbrev pub let_go_first : Option ℕ → Outside → Outside
let_go_first None o = o
let_go_first (Some x) o = let_go (vector_in o.registers x) o

-- some interrupts are told, each of which has risen
pub record TellsOnce (noted : Noted) (old new : Outside) : Type 0 where
  pub those : Which → Bool
  pub risen : (queue : Which) → those queue ≡ true → has_risen noted.before new.registers.ipsr queue ≡ true
  pub all : new ≡ told_in_order those (let_go_first noted.freed old)

-- what a change leaves behind: interrupts are messages, an enabled one is pending while one of its causes is set, and a change that lets a message
-- go raised none
pub record IsChanged (noted : Noted) (registers : Registers) : Type 0 where
  pub offered : has_messages registers.features ≡ true
  pub messages : is_wired registers ≡ false
  pub settled : with_pending registers ≡ registers
  pub freed : IfSome noted.freed (λ _. registers.ipsr ≡ noted.before)

-- what telling one comes to: its message is written, or its vector owes it, or it is refused, of which a record of cause 273 is delivered
pub data Act : Type 0 where
  Writes : MsiVector → Act
  Owes : (x : ℕ) → Act
  Refuses : MsiVector → Act

abbrev pub done : Act → Outside → Outside
done (Writes vector) o = record o {
  memory = memory_put o.memory vector.addr (bytes_of vector);
  messages = messages_put o.memory o.messages vector.addr (bytes_of vector);
}
done (Owes x) o = record o { registers = owing x o.registers }
done (Refuses vector) o = record o {
  registers = (delivered o.registers o.memory (refusal vector.addr)).registers;
  memory = (delivered o.registers o.memory (refusal vector.addr)).memory;
}

abbrev pub all_done : List Act → Outside → Outside
all_done [] o = o
all_done (act ∷ acts) o = all_done acts (done act o)

-- at most so many acts, one after the other
pub record ActsOf (most : ℕ) (old new : Outside) : Type 0 where
  pub acts : List Act
  pub few : length acts ≤ most
  pub all : new ≡ all_done acts old

-- ipsr is as it was, or fip was 0 and is 1
abbrev pub RaisesFip : ℕ → ℕ → Type 0
RaisesFip old new = (new ≡ old) ⊎ ((has_bit old 1 ≡ false) × (new ≡ with_bit old 1))
