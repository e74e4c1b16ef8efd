use Rattle.iom_tool.specs.Script.{stores_at}
use Rattle.iom_explain.specs.Drives.{told}
use Rattle.iom_explain.proofs.Telling.{line_after, no_store, some_stores}
use Rattle.iom_explain.proofs.explaining.Explaining.tell_put.Goals as goal

pub returns-then-is_empty-clause-ok : goal.returns-then-is_empty-clause-ok
returns-then-is_empty-clause-ok g c =
    no_store c.tell_other.result _ _ _ c.args.addr c.args.words.now (told c.args.self.now) (told c.tell_other.new.self) _ _
    c.if-is_empty.ensures c.tell_other.ensures.ok

pub returns-clause-ok : goal.returns-clause-ok
returns-clause-ok g c =
    rw (c.write_line.ensures.short, c.write_line.ensures.counts, c.write_line.ensures.only) (
    some_stores c.write_line.result _ _ _ c.args.addr c.args.words.now (told c.args.self.now) (told c.tell_stores.new.self) _ _
    c.if-is_empty.ensures
    (line_after c.write_line.result _ _ _ _ (told c.args.self.now) (told c.tell_stores.new.self) c.args.self.now.number c.args.line.now
    (stores_at c.args.addr c.args.words.now) _ c.in_ok-reply.reply.items _ c.place-place.ensures c.in_ok-reply.ensures.ok
    (rw (c.as_slice.ensures.value, c.tell_stores.ensures.only) at c.write_line.ensures.ok)))
