use Rattle.iom_blk.specs.Device.{at_reset}
use Rattle.std.proofs.Common.{rules}
use Rattle.iom_blk.proofs.device.Blk.at_reset.Goals as goal

pub returns : goal.returns
unfolding at_reset
returns c = search rules
