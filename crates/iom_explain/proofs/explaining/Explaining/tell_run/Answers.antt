use Rattle.std.proofs.Common.{replicate}
use Rattle.iom_tool.specs.Parsed.{step_of}
use Rattle.iom_explain.specs.Drives.{told}
use Rattle.iom_explain.proofs.Telling.{line_after}
use Rattle.iom_explain.proofs.explaining.Explaining.tell_run.Goals as goal

pub returns-clause-ok : goal.returns-clause-ok
returns-clause-ok g c =
    rw (c.write_line.ensures.short, c.write_line.ensures.counts, c.write_line.ensures.only) (
    line_after c.write_line.result _ _ _ _ (told c.args.self.now) (told c.tell_again.new.self) c.args.self.now.number c.args.line.now
    (replicate c.args.most (step_of c.args.actor)) _ c.in_ok-reply.reply.items _ c.place-place.ensures c.in_ok-reply.ensures.ok
    (rw (c.as_slice.ensures.value, c.tell_again.ensures.only) at c.write_line.ensures.ok))
