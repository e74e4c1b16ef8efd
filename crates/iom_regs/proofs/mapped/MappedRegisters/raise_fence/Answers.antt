use Rattle.iom_regs.proofs.Raised.{fence_raised}
use Rattle.iom_regs.proofs.mapped.MappedRegisters.raise_fence.Goals as goal

pub invariant_of-self : goal.invariant_of-self
invariant_of-self c = rw c.raise.ensures (fence_raised _ c.self.invariant)
