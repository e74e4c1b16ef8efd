use Rattle.std.proofs.Common.{◌≡◌, ◌++◌}
use Rattle.iom_messages.proofs.messages.Messages.try_clone.Given as goal

-- the messages copied so far, and those to come, are all messages
abbrev pub invariant-loop-message : goal.invariant-loop-message
invariant-loop-message l = record {
  can_next : (goal.iterator-loop-message).can_next l.message-iterator;
  is_finite : (goal.iterator-loop-message).is_finite l.message-iterator;
  capacity : l.kept.capacity ≡ 16;
  whole : l.kept.items ++ l.message-iterator ≡ l.self-inside.kept.items;
}
