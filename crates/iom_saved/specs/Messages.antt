-- The words of a window beside memory and of the messages that were sent into it.
use Rattle.std.specs.Prelude.{ℕ, List, [], ◌∷◌, ◌++◌, length, Option, Some, None}
use Rattle.std.specs.List.{flat_map}
use Rattle.iom_messages.specs.Messages.{Messages}
use Rattle.iom_messages.specs.declared.messages.Message.{Message}
use Rattle.iom_messages.specs.declared.window.Window.{Window}

-- whether there is a window, its base and its size
abbrev pub window_words : Option Window → List ℕ
window_words None = 0 ∷ 0 ∷ 0 ∷ []
window_words (Some window) = 1 ∷ window.base ∷ window.size ∷ []

-- a message: its address, and its value
abbrev pub message_words : Message → List ℕ
message_words message = message.addr ∷ message.value ∷ []

-- a message that there may be
abbrev pub message_seen_words : Option Message → List ℕ
message_seen_words None = []
message_seen_words (Some message) = message_words message

-- how many are kept, and these, the oldest first
abbrev pub kept_words : List Message → List ℕ
kept_words kept = length kept ∷ flat_map message_words kept

-- the window, how many messages were sent, and those that are kept
abbrev pub messages_words : Messages → List ℕ
messages_words messages = window_words messages.window ++ (messages.sent ∷ kept_words messages.kept)
