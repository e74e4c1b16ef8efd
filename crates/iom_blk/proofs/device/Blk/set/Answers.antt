use Rattle.std.proofs.Common.{rules}
use Rattle.iom_blk.specs.Registers.{with_write}
use Rattle.iom_blk.proofs.device.Blk.set.Goals as goal

pub returns-in_default : goal.returns-in_default
unfolding with_write
returns-in_default c = search rules

pub set_queue-requires-clause-free : goal.set_queue-requires-clause-free
unfolding with_write
set_queue-requires-clause-free c = search rules
