use Rattle.std.proofs.Common.{[], true}
use Rattle.iom_debug.specs.Desks.{desk_of}
use Rattle.iom_scripts.proofs.Begins.{begins_on}
use Rattle.iom_scripts.proofs.debugging.debug_script.Goals as goal

pub returns-clause-debugged : goal.returns-clause-debugged
returns-clause-debugged g c = record {
  start = record {
    desk = desk_of c.new-debugging.result.debugger;
    number = c.new-debugging.result.number;
    tells_slips = c.new-debugging.result.tells_slips;
  };
  begins = record {
    desk = rw c.new-debugging.ensures.debugger (begins_on c.args.image.now [] true c.new-debugger.result _ _ _ c.new-debugger.ensures.platform
        c.new-debugger.ensures.trace c.new-debugger.ensures.reasons c.new-debugger.ensures.names c.new-debugger.ensures.marks c.in_ok-platform.ensures.exact c.in-Ok.ensures
        c.account-reasons.ensures);
    number = c.new-debugging.ensures.number;
    slips = c.new-debugging.ensures.tells;
  };
  ends = rw (c.new-script.ensures.remaining, c.new-marked.ensures) at c.debug_lines.ensures;
}
