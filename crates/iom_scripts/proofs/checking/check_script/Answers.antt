use Rattle.iom_check.specs.Drives.{checked_by}
use Rattle.iom_scripts.proofs.Begins.{begins_check, begins_on}
use Rattle.iom_scripts.proofs.checking.check_script.Goals as goal

pub returns-clause-checked : goal.returns-clause-checked
returns-clause-checked g c = record {
  start = checked_by c.new-checking.result;
  begins = begins_check c.args.image.now c.args.ahead.items c.args.rules _ c.args.points (checked_by c.new-checking.result)
      (rw c.new-checking.ensures.debugger (begins_on c.args.image.now c.args.ahead.items c.args.rules.fails_if_unsettled c.new-debugger.result _ _ _ c.new-debugger.ensures.platform
      c.new-debugger.ensures.trace c.new-debugger.ensures.reasons c.new-debugger.ensures.names c.new-debugger.ensures.marks c.in_ok-platform.ensures.exact c.in-Ok.ensures
      c.account_ahead-reasons.ensures))
      c.new-checking.ensures.number c.new-checking.ensures.place c.new-checking.ensures.score;
  ends = rw (c.new-script.ensures.remaining, c.new-marked.ensures, c.folder_name-own.ensures) at c.check_lines.ensures;
}
