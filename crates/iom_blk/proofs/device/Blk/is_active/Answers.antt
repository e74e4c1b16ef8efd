use Rattle.iom_blk.specs.Phases.{is_active}
use Rattle.std.proofs.Common.{rules}
use Rattle.iom_blk.proofs.device.Blk.is_active.Goals as goal

pub returns-then-self-clause-active : goal.returns-then-self-clause-active
unfolding is_active
returns-then-self-clause-active c = search rules
