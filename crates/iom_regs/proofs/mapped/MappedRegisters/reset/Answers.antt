use Rattle.std.proofs.Common.{rules}
use Rattle.iom_regs.proofs.mapped.MappedRegisters.reset.Goals as goal

pub returns : goal.returns
returns c = search rules
