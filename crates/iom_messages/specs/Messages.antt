-- Physical addresses that are no memory, where a write is a message, as a message-signalled interrupt is: what is sent and kept, and
-- what a write leaves. RISC-V Advanced Interrupt Architecture, "Interrupt delivery by message": a write of 32 bits, naturally aligned.
use Rattle.std.specs.Prelude.{ℕ, ◌+◌, ◌%◌, ◌^◌, ◌==◌, ◌&&◌, ◌||◌, Bool, false, List, [], ◌∷◌, ◌++◌, length, drop, Option, Some, None, is_some, if◌then◌else◌}
use Rattle.circular_buffer.specs.Buffer.{keep_last}
use Rattle.iom_bits.specs.Bytes.{number_of_bytes}
use Rattle.iom_mem.specs.Memory.{Memory, bytes_at, put}
use Rattle.iom_mem.specs.Sizes.{covers}
use Rattle.iom_messages.specs.declared.window.Window.{Window}
use Rattle.iom_messages.specs.declared.messages.Message.{Message}

-- the window, how many messages were sent, and the last of them, oldest first
pub record Messages : Type 0 where
  pub window : Option Window
  pub sent : ℕ
  pub kept : List Message

-- how many are kept at most
abbrev pub messages_room : ℕ
messages_room = 16

-- nothing was sent yet
abbrev pub none_sent : Option Window → Messages
none_sent window = record { window = window; sent = 0; kept = [] }

-- a message is sent; the count begins again behind 2^64 - 1
abbrev pub posted : Message → Messages → Messages
posted message messages = record messages {
  sent = (messages.sent + 1) % 2 ^ 64;
  kept = keep_last messages_room (messages.kept ++ message ∷ []);
}

-- the oldest that is kept is taken out
abbrev pub without_oldest : Messages → Messages
without_oldest messages = record messages { kept = drop 1 messages.kept }

-- a write of so many bytes is a message: four, at a multiple of 4, in the window
abbrev pub is_in : Option Window → ℕ → ℕ → Bool
is_in None addr count = false
is_in (Some window) addr count = covers window.base (window.base + window.size) addr count

abbrev pub is_message : Messages → ℕ → ℕ → Bool
is_message messages addr count = count == 4 && addr % 4 == 0 && is_in messages.window addr count

-- its address and its value, the lowest byte first
abbrev pub message_of : ℕ → List ℕ → Message
message_of addr bytes = record { addr = addr; value = number_of_bytes bytes }

-- Bytes that are written to a physical address go to memory, where all of them are inside; else they are a message, or go nowhere.
abbrev pub is_inside : Memory → ℕ → List ℕ → Bool
is_inside memory addr bytes = is_some (bytes_at memory addr (length bytes))

abbrev pub can_put : Memory → Messages → ℕ → List ℕ → Bool
can_put memory messages addr bytes = is_inside memory addr bytes || is_message messages addr (length bytes)

-- memory, and the messages, after such a write; where it goes nowhere both are as they were
abbrev pub memory_put : Memory → ℕ → List ℕ → Memory
memory_put memory addr bytes = if is_inside memory addr bytes then put memory addr bytes else memory

abbrev pub messages_put : Memory → Messages → ℕ → List ℕ → Messages
messages_put memory messages addr bytes =
    if is_inside memory addr bytes then messages
    else if is_message messages addr (length bytes) then posted (message_of addr bytes) messages
    else messages
