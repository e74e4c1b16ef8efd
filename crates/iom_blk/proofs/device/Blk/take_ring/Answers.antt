use Rattle.iom_blk.specs.Phases.{after_ring}
use Rattle.std.proofs.Common.{rules}
use Rattle.iom_blk.proofs.device.Blk.take_ring.Goals as goal

pub invariant_of-self : goal.invariant_of-self
unfolding after_ring
invariant_of-self c = search rules

pub returns-else-head-self : goal.returns-else-head-self
unfolding after_ring
returns-else-head-self c = search rules
