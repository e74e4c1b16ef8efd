-- The states of a run.
use Rattle.std.proofs.Common.{◌≡◌, List, [], ◌∷◌, length, Some, refl}
use Rattle.std.specs.Prelude.{slice_get}
use Rattle.iom_core.specs.State.{State}
use Rattle.iom_core.specs.Table.{next}
use Rattle.iom_core.specs.Run.{states, end_of}
use Rattle.iom_core.specs.declared.step.Step.{Step}

pub last_of_states : (state : State) (steps : List Step) → slice_get (states state steps) (length steps) ≡ Some (end_of state steps)
last_of_states state [] = refl
last_of_states state (step ∷ steps) = last_of_states (next state step).state steps
