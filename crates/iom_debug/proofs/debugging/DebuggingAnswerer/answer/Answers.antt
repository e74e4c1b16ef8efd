use Rattle.std.proofs.Common.{◌∙◌}
use Rattle.iom_debug.specs.Telling.{Debugged, DebugSays}
use Rattle.iom_debug.proofs.Telling.{told_at_once, debug_says}
use Rattle.iom_debug.proofs.debugging.DebuggingAnswerer.answer.Goals as goal

pub returns-clause-next : goal.returns-clause-next
returns-clause-next g c =
    told_at_once Debugged DebugSays c.args.line.now c.as_slice-3.result.now _ _ c.write_told.result
    (debug_says _ _ c.args.line.now c.first_bytes-line.result.now c.as_slice-3.result.now c.line-answer.result.items
    c.slip_told-slip.result.items c.saturating_add-self.result c.first_bytes-line.ensures.bytes c.saturating_add-self.ensures
    (record { state = c.line-answer.ensures.state; trace = c.line-answer.ensures.trace; stale = c.line-answer.ensures.stale; along = c.line-answer.ensures.along; names = c.line-answer.ensures.names; marks = c.line-answer.ensures.marks })
    c.line-answer.ensures.reply c.slip_told-slip.ensures
    (c.as_slice-3.ensures.value ∙ rw (c.as_slice.ensures.value, c.as_slice-2.ensures.value) at c.put_line.ensures))
    c.write_told.ensures.ok c.write_told.ensures.front
