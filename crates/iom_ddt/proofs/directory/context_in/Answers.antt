use Rattle.std.proofs.Common.{◌≡◌, ℕ, List, Option, Ok, Err, false, refl, sym, subst, rules}
use Rattle.iom_bits.specs.declared.causes.Cause.TheVariants.{DirBad}
use Rattle.iom_ddt.specs.Contexts.{has_modes}
use Rattle.iom_ddt.specs.Directory.{IsContextOf}
use Rattle.iom_ddt.proofs.Modes.{without_modes}
use Rattle.iom_ddt.proofs.directory.context_in.Goals as goal

pub returns-in-Ok-clause-meaning : goal.returns-in-Ok-clause-meaning
returns-in-Ok-clause-meaning c =
    let features = c.args.features in
    let lacks : has_modes features c.in-Ok.context ≡ false = search rules in
    subst (λ (words : Option (List ℕ)). IsContextOf features words (Err DirBad)) (sym c.in-Some.is)
    (without_modes features c.in-Some.words c.in-Ok.context (Ok c.in-Ok.context) refl c.in-Ok.ensures.found c.in-Ok.ensures.only lacks)
