use Rattle.std.proofs.Common.{◌∙◌, refl, sym}
use Rattle.iom_debug.specs.Desks.{desk_of}
use Rattle.iom_explain.specs.Drives.{told}
use Rattle.iom_explain.proofs.Telling.{known, line_other}
use Rattle.iom_explain.proofs.explaining.Explaining.tell_other.Goals as goal

pub returns-clause-ok : goal.returns-clause-ok
returns-clause-ok g c =
    let left = c.line-reply.ensures in
    rw (c.write_line.ensures.short, c.write_line.ensures.counts, c.write_line.ensures.only) (
    line_other c.write_line.result _ _ _ (told c.args.self.now)
    (record {
      desk = desk_of c.line-reply.new.self;
      counts = c.args.self.now.teller.summary;
      only = c.args.self.now.teller.only;
    }) c.args.self.now.number c.args.text.now c.line-reply.result.items c.slip-slip.result.items _ c.place-place.ensures (record {
      state = left.state;
      trace = left.trace;
      stale = left.stale;
      along = left.along;
      names = left.names;
      marks = left.marks;
    }) (λ short. sym c.is_lost.ensures ∙ known _ _ (sym c.is_refused-self.ensures ∙ short)) refl refl left.reply c.slip-slip.ensures
    (rw (c.as_slice.ensures.value, c.as_slice-2.ensures.value) at c.write_line.ensures.ok))
