use Rattle.std.proofs.Common.{◌≡◌, Result, false, subst, sym}
use Rattle.iom_bits.specs.declared.causes.Cause.{Cause}
use Rattle.iom_ddt.specs.declared.context.Context.{Context}
use Rattle.iom_every.specs.Entries.{OfDevice}
use Rattle.iom_every.specs.Frames.{names_memory}
use Rattle.iom_every.proofs.Named.{fault_names}
use Rattle.iom_every.proofs.frames.meets_said.Goals as goal

pub returns-in-Err : goal.returns-in-Err
returns-in-Err c = λ did.
    subst (λ (said : Result Context Cause). false ≡ names_memory c.args.addr c.args.len (OfDevice did said)) (sym c.in-Err.is)
    (fault_names c.args.addr c.args.len did c.in-Err.field-0)
