-- What the lines of a script drive: the platform, and the trace of its last steps.
use Rattle.std.specs.Prelude.{◌++◌, List, [], ◌∷◌}
use Rattle.circular_buffer.specs.Buffer.{keep_last}
use Rattle.iom_core.specs.State.{State}
use Rattle.iom_core.specs.Table.{next}
use Rattle.iom_core.specs.Run.{end_of}
use Rattle.iom_core.specs.declared.step.Step.{Step}
use Rattle.iom_core.specs.declared.step.Answer.{Answer}
use Rattle.iom_tool.specs.declared.trace.TracedStep.{TracedStep}

pub record Console : Type 0 where
  pub state : State
  pub trace : List TracedStep

abbrev pub console : State → List TracedStep → Console
console state trace = record { state = state; trace = trace }

-- a step and its answer are appended to a trace, of which the last 32 are kept
abbrev pub traced : List TracedStep → Step → Answer → List TracedStep
traced trace step answer = keep_last 32 (trace ++ record { step = step; answer = answer } ∷ [])

-- the trace after steps from a state
abbrev pub trace_after : List TracedStep → State → List Step → List TracedStep
trace_after trace state [] = trace
trace_after trace state (step ∷ steps) =
    trace_after (traced trace step (next state step).answer) (next state step).state steps

-- the platform and the trace after some steps
abbrev pub console_after : Console → List Step → Console
console_after now steps = console (end_of now.state steps) (trace_after now.trace now.state steps)
