use Rattle.std.proofs.Common.{◌∙◌, List, Some, sym, subst}
use Rattle.iom_held.specs.Naming.{AreTold}
use Rattle.iom_held.specs.declared.kept.Kept.{Kept}
use Rattle.iom_held.proofs.Named.{none_names, one_names}
use Rattle.iom_held.proofs.naming.add.Goals as goal

pub returns-then-names_memory : goal.returns-then-names_memory
returns-then-names_memory c = λ all h.
    subst (λ (xs : List Kept). AreTold xs (Some c.with.result))
    (one_names c.args.addr c.args.len c.args.kept.now all (sym c.names_memory.ensures ∙ c.if-names_memory.true)) (c.with.ensures all h)

pub returns-else-names_memory : goal.returns-else-names_memory
returns-else-names_memory c = λ all h.
    subst (λ (xs : List Kept). AreTold xs c.args.found.now)
    (none_names c.args.addr c.args.len c.args.kept.now all (sym c.names_memory.ensures ∙ c.if-names_memory.false)) h
