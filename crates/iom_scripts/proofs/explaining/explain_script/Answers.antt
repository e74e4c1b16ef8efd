use Rattle.std.proofs.Common.{[]}
use Rattle.iom_explain.specs.Drives.{progressed}
use Rattle.iom_scripts.proofs.Begins.{begins_on}
use Rattle.iom_scripts.proofs.explaining.explain_script.Goals as goal

pub returns-clause-explained : goal.returns-clause-explained
returns-clause-explained g c = record {
  start = progressed c.in-Ok-new.explaining;
  begins = record {
    desk = rw c.in-Ok-new.ensures.debugger (begins_on c.args.image.now [] c.args.tells_settled c.new-debugger.result _ _ _ c.new-debugger.ensures.platform
        c.new-debugger.ensures.trace c.new-debugger.ensures.reasons c.new-debugger.ensures.names c.new-debugger.ensures.marks c.in_ok-platform.ensures.exact c.in-Ok.ensures
        c.account-reasons.ensures);
    counts = c.in-Ok-new.ensures.counts;
    only_these = c.in-Ok-new.ensures.only;
    number = c.in-Ok-new.ensures.number;
    memory = c.in-Ok-new.ensures.short;
  };
  ends = rw (c.new-script.ensures.remaining, c.new-marked.ensures) at c.explain_lines.ensures;
}
