use Rattle.iom_regs.proofs.Raised.{fqof_raised}
use Rattle.iom_regs.proofs.mapped.MappedRegisters.raise_fqof.Goals as goal

pub invariant_of-self : goal.invariant_of-self
invariant_of-self c = rw c.raise.ensures (fqof_raised _ c.self.invariant)
