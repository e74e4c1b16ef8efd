use Rattle.std.proofs.Common.{◌≡◌, ◌++◌, ℕ, List, length}
use Rattle.std.specs.List.{AllByRecursion, flat_map}
use Rattle.iom_messages.specs.declared.messages.Message.{Message}
use Rattle.iom_saved.specs.Kept.{IsMessage}
use Rattle.iom_saved.specs.Messages.{message_words}
use Rattle.iom_saved.proofs.Taken.{Went}
use Rattle.iom_saved.proofs.messages.take_messages.Given as goal

-- what was read is the messages so far, and of words that were put those of the others are left
abbrev pub invariant-loop : goal.invariant-loop
invariant-loop l = record {
  window : l.messages.window ≡ l.initial.messages.window;
  sent : l.messages.sent ≡ l.initial.messages.sent;
  read : l.initial.words ≡ flat_map message_words l.messages.kept ++ l.words;
  count : length l.messages.kept ≡ l.counter;
  went : (kept : List Message) (rest : List ℕ) → l.initial.words ≡ flat_map message_words kept ++ rest → length kept ≡ l.count →
      AllByRecursion IsMessage kept → Went message_words IsMessage kept l.messages.kept rest l.words;
}
