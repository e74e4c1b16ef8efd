use Rattle.iom_blk.specs.Phases.{break_down}
use Rattle.std.proofs.Common.{rules}
use Rattle.iom_blk.proofs.device.Blk.break_down.Goals as goal

pub returns : goal.returns
unfolding break_down
returns c = search rules
