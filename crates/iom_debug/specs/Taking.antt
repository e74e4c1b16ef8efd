-- Steps that are taken one after the other, while each is done.
use Rattle.std.specs.Prelude.{ℕ, ◌≡◌, ◌++◌, Bool, true, false, List, [], ◌∷◌, length, codes, if◌then◌else◌}
use Rattle.iom_text.specs.Texts.{hexadecimal}
use Rattle.iom_core.specs.State.{State}
use Rattle.iom_core.specs.Run.{end_of}
use Rattle.iom_core.specs.Table.{next}
use Rattle.iom_core.specs.declared.step.Step.{Step}
use Rattle.iom_core.specs.declared.step.Answer.{Answer}
use Rattle.iom_core.specs.declared.step.Answer.TheVariants as answer
use Rattle.iom_tool.specs.Console.{trace_after, traced}
use Rattle.iom_tool.specs.Texts.{text_of}
use Rattle.iom_tool.specs.declared.trace.TracedStep.{TracedStep}
use Rattle.iom_names.specs.declared.names.Binding.{Binding}
use Rattle.iom_debug.specs.Marks.{MarksView}
use Rattle.iom_debug.specs.Reasons.{GoesAlong, KeepsFence, KeepsIgnored, KeepsInvalidation, KeepsLastStale, KeepsSettling, KeepsStale, LineAccountView}

-- what the lines of `debug` drive: a platform, the trace of its last steps, what is told beside them, the names of numbers, and where lines stand
pub record Desk : Type 0 where
  pub state : State
  pub trace : List TracedStep
  pub reasons : LineAccountView
  pub names : List Binding
  pub marks : MarksView

abbrev pub desk : State → List TracedStep → LineAccountView → List Binding → MarksView → Desk
desk state trace reasons names marks = record { state = state; trace = trace; reasons = reasons; names = names; marks = marks }

-- what a step of a line of this number leaves
pub record Took (before : Desk) (step : Step) (number : ℕ) (after : Desk) : Type 0 where
  pub state : after.state ≡ (next before.state step).state
  pub trace : after.trace ≡ traced before.trace step (next before.state step).answer
  pub stale : KeepsStale before.reasons before.state step after.reasons
  pub fence : KeepsFence before.reasons before.state step after.reasons
  pub ignored : KeepsIgnored before.reasons before.state step after.reasons
  pub settled : KeepsSettling before.reasons before.state step number after.reasons
  pub invalidation : KeepsInvalidation before.reasons before.state step number after.reasons
  pub along : GoesAlong before.reasons before.state (step ∷ []) number after.reasons after.state
  pub names : after.names ≡ before.names
  pub marks : after.marks ≡ before.marks

unfoldable pub is_done : Answer → Bool
is_done answer.Done = true
is_done _ = false

-- of some steps those that are taken: up to the first that isn't done, and that one too
abbrev pub taken : State → List Step → List Step
taken state [] = []
taken state (step ∷ steps) =
    step ∷ (if is_done (next state step).answer then taken (next state step).state steps else [])

-- the answer to the last step that is taken; where there is none, done
abbrev pub last_answer : State → List Step → Answer
last_answer state [] = answer.Done
last_answer state (step ∷ steps) =
    if is_done (next state step).answer then last_answer (next state step).state steps else (next state step).answer

-- what steps of a line of this number leave that are taken one after the other
pub record TookAll (before : Desk) (steps : List Step) (number : ℕ) (after : Desk) : Type 0 where
  pub state : after.state ≡ end_of before.state (taken before.state steps)
  pub trace : after.trace ≡ trace_after before.trace before.state (taken before.state steps)
  pub stale : KeepsLastStale before.reasons before.state (taken before.state steps) number after.reasons
  pub along : GoesAlong before.reasons before.state (taken before.state steps) number after.reasons after.state
  pub names : after.names ≡ before.names
  pub marks : after.marks ≡ before.marks

-- how many steps were taken, and the last answer
unfoldable pub count_text : ℕ → Answer → List ℕ
count_text count last = hexadecimal count ++ codes " " ++ text_of last

abbrev pub run_text : State → List Step → List ℕ
run_text state steps = count_text (length (taken state steps)) (last_answer state steps)
