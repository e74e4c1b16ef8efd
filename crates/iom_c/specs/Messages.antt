-- Messages in C: which are kept, and what is left where one is taken out.
use Rattle.std.specs.Prelude.{ℕ, ◌≡◌, [], ◌∷◌, Option, Some, None}
use Rattle.iom_messages.specs.Messages.{without_oldest}
use Rattle.iom_messages.specs.declared.messages.Message.{Message}
use Rattle.iom_c.specs.Faults.{not_there, ok}
use Rattle.iom_c.specs.declared.held.Held.{Held}
use Rattle.iom_c.specs.declared.held.Held.TheVariants as held
use Rattle.iom_c.specs.declared.messages.SentMessage.{SentMessage}
use Rattle.iom_c.specs.declared.owned.Owned.{Owned}

-- a message
abbrev pub message_of : Message → SentMessage
message_of message = record { address = message.addr; value = message.value; reserved = 0 ∷ 0 ∷ [] }

-- of a message that is kept, what it is; None: there are fewer
abbrev pub MessageTold : Option Message → ℕ → SentMessage → SentMessage → Type 0
MessageTold (Some message) told old new = (told ≡ ok) × (new ≡ message_of message)
MessageTold None told old new = (told ≡ not_there) × (new ≡ old)

-- the oldest message that is kept is taken out of a platform, whosever its memory is
abbrev pub held_without_oldest : Held → Held
held_without_oldest (held.Own platform) = held.Own (record platform { messages = without_oldest platform.messages })
held_without_oldest (held.Lent lent) =
    held.Lent (record lent { board = record lent.board { messages = without_oldest lent.board.messages } })

-- the same of what a handle owns: no step was counted, and nothing else has changed
abbrev pub taken_from : Owned → Owned
taken_from own = record own { held = held_without_oldest own.held }
