use Rattle.std.proofs.Common.{◌∙◌, sym, subst}
use Rattle.std.specs.Prelude.{Option}
use Rattle.iom_held.specs.Kept.{AreSpared, left_by}
use Rattle.iom_held.proofs.Sound.{fence_spares, not_true}
use Rattle.iom_queue.specs.declared.command.Command.{Command}
use Rattle.iom_held.proofs.shelves.may_be_named.Goals as goal

pub returns-in-Some : goal.returns-in-Some
returns-in-Some c = λ number kept spared off.
    subst (λ (command : Option Command). AreSpared (left_by number command kept)) (sym c.in-Some.is)
    (fence_spares number c.in-Some.command kept (sym c.is_fence.ensures ∙ not_true c.is_fence.result off))
