use Rattle.iom_queue.specs.Delivery.{is_stored, delivered}
use Rattle.std.proofs.Common.{rules}
use Rattle.iom_queue.proofs.delivery.deliver.Goals as goal

pub returns-then-is_full-clause-memory : goal.returns-then-is_full-clause-memory
unfolding delivered is_stored
returns-then-is_full-clause-memory g c = search rules

pub returns-then-is_full-clause-unchanged : goal.returns-then-is_full-clause-unchanged
unfolding delivered is_stored
returns-then-is_full-clause-unchanged g c = search rules

pub returns-else-write-clause-registers : goal.returns-else-write-clause-registers
unfolding delivered is_stored
returns-else-write-clause-registers g c = search rules

pub returns-then-write-clause-registers : goal.returns-then-write-clause-registers
unfolding delivered is_stored
returns-then-write-clause-registers g c = search rules
