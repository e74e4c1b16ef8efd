use Rattle.std.proofs.Common.{◌∙◌, ◌≡◌, true, sym, subst}
use Rattle.iom_regs.proofs.KeptVectors.{vector_set}
use Rattle.iom_regs.specs.Table.{Registers}
use Rattle.iom_regs.specs.Vectors.{is_vector, msi_addr_of}
use Rattle.iom_regs.proofs.mapped.MappedRegisters.set_vector.Goals as goal

pub invariant_of-self : goal.invariant_of-self
invariant_of-self c =
    vector_set _ c.args.x c.args.vector c.self.invariant (sym c.is_vector.ensures.there ∙ c.if-is_vector.true)
    (subst (λ (r : Registers). is_vector r.features c.args.x ≡ true → msi_addr_of c.args.vector.addr ≡ c.args.vector.addr) (sym c.self.view_is) c.requires)
