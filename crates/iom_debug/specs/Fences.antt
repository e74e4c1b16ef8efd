-- Steps that carry out a fence: RISC-V IOMMU Architecture 1.0, "IOFENCE.C".
use Rattle.std.specs.Prelude.{◌||◌, Bool, true, false, List, [], ◌∷◌, Option, Some}
use Rattle.iom_queue.specs.declared.command.Command.{Command}
use Rattle.iom_queue.specs.declared.command.Command.TheVariants.{Fence}
use Rattle.iom_core.specs.State.{State}
use Rattle.iom_core.specs.Table.{executed, next}
use Rattle.iom_core.specs.declared.step.Step.{Step}

-- whether the command that a step executes is a fence
abbrev pub is_fence : Option Command → Bool
is_fence (Some (Fence av wsi pr pw value addr)) = true
is_fence _ = false

-- whether one of some steps, one after the other, executes a fence
abbrev pub have_fence : State → List Step → Bool
have_fence state [] = false
have_fence state (step ∷ steps) = is_fence (executed state step) || have_fence (next state step).state steps
