-- What is answered to a line, and which steps it is.
use Rattle.std.specs.Prelude.{ℕ, ◌≡◌, Bool, false, List, [], ◌∷◌, replicate}
use Rattle.std.specs.Option.{unwrap_or}
use Rattle.iom_core.specs.State.{State}
use Rattle.iom_core.specs.declared.step.Step.{Step}
use Rattle.iom_tool.specs.Console.{Console, console_after}
use Rattle.iom_tool.specs.Output.{reply, steps_in, steps_of}
use Rattle.iom_tool.specs.Script.{Again, DebugLine, Does, Inquires, Named, Plain, Stores, line_of}
use Rattle.iom_tool.specs.Texts.{text_of}
use Rattle.iom_names.specs.Reading.{line_with}
use Rattle.iom_names.specs.declared.names.Binding.{Binding}
use Rattle.iom_debug.specs.Taking.{last_answer, run_text, taken}
use Rattle.iom_debug.specs.Reasons.{LineAccountView}
use Rattle.iom_debug.specs.Answers.{IsInquired, is_owed}
use Rattle.iom_debug.specs.Marks.{MarksView}

-- This is answered, empty where nothing is, by what is told beside the platform and the trace. Of what is owed there may be several answers,
-- since an IOMMU may lead a request in several ways; any other line has one.
abbrev pub IsReply : MarksView → Console → LineAccountView → DebugLine → List ℕ → Type 0
IsReply marks now reasons (Plain line) answer = answer ≡ unwrap_or (reply now line) []
IsReply marks now reasons (Named step) answer = answer ≡ unwrap_or (reply now (Does step)) []
IsReply marks now reasons (Inquires inquiry) answer = IsInquired marks now.state reasons inquiry answer
IsReply marks now reasons (Again step most) answer = answer ≡ run_text now.state (replicate most step)
IsReply marks now reasons (Stores steps) answer = answer ≡ text_of (last_answer now.state steps)

-- whether a line asks what is owed
abbrev pub asks_owed : DebugLine → Bool
asks_owed (Inquires inquiry) = is_owed inquiry
asks_owed _ = false

-- the steps that a line is
abbrev pub debug_steps : State → DebugLine → List Step
debug_steps state (Plain line) = steps_in line
debug_steps state (Named step) = step ∷ []
debug_steps state (Inquires inquiry) = []
debug_steps state (Again step most) = taken state (replicate most step)
debug_steps state (Stores steps) = taken state steps

-- the same, of the text of a line where there are these names
abbrev pub debug_steps_of : List Binding → State → List ℕ → List Step
debug_steps_of names state text = debug_steps state (line_with names text)

-- an answer, empty where there is none, and what stands after it, are those that `run` has
pub record IsAsRun (now : Console) (text given : List ℕ) (left : Console) : Type 0 where
  pub answered : given ≡ unwrap_or (reply now (line_of text)) []
  pub stepped : left ≡ console_after now (steps_of text)
