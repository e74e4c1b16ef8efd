-- What `run` answers to a line, `debug` answers too.
use Rattle.std.proofs.Common.{◌≡◌, ◌≢◌, ◌∙◌, ℕ, List, ap, subst}
use Rattle.iom_core.specs.State.{State}
use Rattle.iom_core.specs.Run.{end_of}
use Rattle.iom_tool.specs.Console.{Console, console, trace_after}
use Rattle.iom_tool.specs.Script.{Bad, DebugLine, line_of}
use Rattle.iom_names.specs.Reading.{line_with}
use Rattle.iom_names.specs.declared.names.Binding.{Binding}
use Rattle.iom_names.proofs.Kept.{as_run as same_line}
use Rattle.iom_tool.specs.declared.trace.TracedStep.{TracedStep}
use Rattle.iom_tool.specs.Output.{steps_of}
use Rattle.iom_debug.specs.Reasons.{LineAccountView}
use Rattle.iom_debug.specs.Marks.{MarksView}
use Rattle.iom_debug.specs.Output.{IsAsRun, IsReply, debug_steps, debug_steps_of}

pub as_run : (marks : MarksView) (names : List Binding) (now : Console) (reasons : LineAccountView) (text given : List ℕ) (state : State) (trace : List TracedStep) →
    line_of text ≢ Bad → IsReply marks now reasons (line_with names text) given → state ≡ end_of now.state (debug_steps_of names now.state text) →
    trace ≡ trace_after now.trace now.state (debug_steps_of names now.state text) → IsAsRun now text given (console state trace)
as_run marks names now reasons text given state trace other answered moved kept =
    let same = same_line names text other in
    record {
      answered = subst (λ (l : DebugLine). IsReply marks now reasons l given) same answered;
      stepped =
          ap (λ s. console s trace) (moved ∙ ap (λ (l : DebugLine). end_of now.state (debug_steps now.state l)) same)
          ∙ ap (console (end_of now.state (steps_of text))) (kept ∙ ap (λ (l : DebugLine). trace_after now.trace now.state (debug_steps now.state l)) same);
    }
