use Rattle.iom_blk.specs.Phases.{after_index}
use Rattle.std.proofs.Common.{rules}
use Rattle.iom_blk.proofs.device.Blk.take_index.Goals as goal

pub returns-else-idx-self-2 : goal.returns-else-idx-self-2
unfolding after_index
returns-else-idx-self-2 c = search rules
