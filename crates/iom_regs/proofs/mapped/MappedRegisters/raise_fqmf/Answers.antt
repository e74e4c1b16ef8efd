use Rattle.iom_regs.proofs.Raised.{fqmf_raised}
use Rattle.iom_regs.proofs.mapped.MappedRegisters.raise_fqmf.Goals as goal

pub invariant_of-self : goal.invariant_of-self
invariant_of-self c = rw c.raise.ensures (fqmf_raised _ c.self.invariant)
