use Rattle.std.proofs.Common.{rules}
use Rattle.iom_blk.specs.Phases.{after_descriptor, completed, break_down}
use Rattle.iom_blk.proofs.device.Blk.take_descriptor.Goals as goal

pub returns-in-Err : goal.returns-in-Err
unfolding after_descriptor completed break_down
returns-in-Err c = search rules
