use Rattle.std.proofs.Common.{◌≡◌, ◌++◌, take}
use Rattle.std.specs.List.{AllByRecursion, flat_map}
use Rattle.iom_saved.specs.Kept.{IsMessage}
use Rattle.iom_saved.specs.Messages.{message_words}
use Rattle.iom_saved.proofs.messages.put_messages.Given as goal

-- the messages so far were put
abbrev pub invariant-loop-i : goal.invariant-loop-i
invariant-loop-i l = record {
  put : l.out.items ≡ l.initial.out.items ++ flat_map message_words (take l.i l.messages.kept);
  kept : AllByRecursion IsMessage (take l.i l.messages.kept);
}
