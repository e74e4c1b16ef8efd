use Rattle.std.proofs.Common.{◌∙◌}
use Rattle.iom_saved.proofs.Again.{as_list, in_words, memory_again}
use Rattle.iom_saved.proofs.Lists.{next_list}
use Rattle.iom_saved.proofs.memory.take_memory.Goals as goal

pub returns-clause-words : goal.returns-clause-words
returns-clause-words c = next_list _ _ _ _ _ _ c.in-Some.ensures.words c.in-Some-list.ensures.words c.in_ok-ram.ensures.words

pub returns-in_default-list-clause-taken : goal.returns-in_default-list-clause-taken
returns-in_default-list-clause-taken c = λ m rest are is.
    let base = c.in-Some.ensures.taken m.base _ are in
    absurd (c.in_default-list.ensures.taken (in_words m.bytes) rest (base.1 ∙ as_list m.bytes rest))

pub returns-clause-taken : goal.returns-clause-taken
returns-clause-taken c = λ m rest are is.
    let base = c.in-Some.ensures.taken m.base _ are in
    let list = c.in-Some-list.ensures.taken (in_words m.bytes) rest (base.1 ∙ as_list m.bytes rest) in
    (c.in_ok-ram.ensures.made ∙ rw (base.0, list.0) (memory_again m is), list.1)
