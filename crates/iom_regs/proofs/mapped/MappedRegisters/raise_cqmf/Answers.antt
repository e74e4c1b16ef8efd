use Rattle.iom_regs.proofs.Raised.{cqmf_raised}
use Rattle.iom_regs.proofs.mapped.MappedRegisters.raise_cqmf.Goals as goal

pub invariant_of-self : goal.invariant_of-self
invariant_of-self c = rw c.raise.ensures (cqmf_raised _ c.self.invariant)
