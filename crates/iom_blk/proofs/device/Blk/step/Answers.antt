use Rattle.std.proofs.Common.{rules}
use Rattle.iom_blk.proofs.device.Blk.step.Goals as goal

pub returns-in-Write-clause-moved : goal.returns-in-Write-clause-moved
returns-in-Write-clause-moved c = search rules
