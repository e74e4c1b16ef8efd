use Rattle.iom_regs.proofs.KeptVectors.{kept_at}
use Rattle.iom_regs.proofs.mapped.MappedRegisters.vector.Goals as goal

pub returns-clause-kept : goal.returns-clause-kept
returns-clause-kept c = rw (← c.self.view_is, c.vector_at.ensures) (kept_at c.self.inside.features c.args.x c.self.inside.table c.self.invariant.table)
