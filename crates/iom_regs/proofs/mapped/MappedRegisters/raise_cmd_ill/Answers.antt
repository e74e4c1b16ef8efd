use Rattle.iom_regs.proofs.Raised.{cmd_ill_raised}
use Rattle.iom_regs.proofs.mapped.MappedRegisters.raise_cmd_ill.Goals as goal

pub invariant_of-self : goal.invariant_of-self
invariant_of-self c = rw c.raise.ensures (cmd_ill_raised _ c.self.invariant)
