use Rattle.iom_blk.specs.Registers.{with_status}
use Rattle.iom_blk.specs.Device.{at_reset}
use Rattle.std.proofs.Common.{rules}
use Rattle.iom_blk.proofs.device.Blk.set_status.Goals as goal

pub returns : goal.returns
unfolding with_status at_reset
returns c = search rules
