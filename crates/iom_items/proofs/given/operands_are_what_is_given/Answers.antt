use Rattle.iom_items.proofs.Operating.{reads_operands, reads_values}
use Rattle.iom_items.proofs.Saying.{reads_limits, reads_flags}
use Rattle.iom_items.proofs.given.operands_are_what_is_given.Goals as goal

pub returns-clause-operands : goal.returns-clause-operands
returns-clause-operands c = reads_operands

pub returns-clause-values : goal.returns-clause-values
returns-clause-values c = reads_values

pub returns-clause-limits : goal.returns-clause-limits
returns-clause-limits c = reads_limits

pub returns-clause-flags : goal.returns-clause-flags
returns-clause-flags c = reads_flags
