use Rattle.std.proofs.Common.{◌≡◌, ℕ, Option, false, subst, sym}
use Rattle.iom_every.specs.Entries.{OfFirst}
use Rattle.iom_every.specs.Frames.{names_memory}
use Rattle.iom_every.proofs.Named.{guest_names}
use Rattle.iom_every.proofs.frames.meets_first.Goals as goal

pub returns-in-Some : goal.returns-in-Some
returns-in-Some c = λ process.
    subst (λ (guest : Option ℕ). false ≡ names_memory c.args.addr c.args.len (OfFirst guest process c.args.held.now)) (sym c.in-Some.is)
    (guest_names c.args.addr c.args.len c.in-Some.field-0 process c.args.held.now)
