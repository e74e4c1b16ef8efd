-- A run: the answers to its steps, and the states that it goes through.
use Rattle.std.specs.Prelude.{List, [], ◌∷◌}
use Rattle.iom_core.specs.State.{State}
use Rattle.iom_core.specs.Table.{next}
use Rattle.iom_core.specs.declared.step.Step.{Step}
use Rattle.iom_core.specs.declared.step.Answer.{Answer}

abbrev pub answers : State → List Step → List Answer
answers state [] = []
answers state (step ∷ steps) = (next state step).answer ∷ answers (next state step).state steps

-- the start and the state after each step
abbrev pub states : State → List Step → List State
states state [] = state ∷ []
states state (step ∷ steps) = state ∷ states (next state step).state steps

-- the state after all steps
abbrev pub end_of : State → List Step → State
end_of state [] = state
end_of state (step ∷ steps) = end_of (next state step).state steps
