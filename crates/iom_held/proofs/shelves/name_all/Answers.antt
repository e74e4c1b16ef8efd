use Rattle.std.proofs.Common.{get_or, arith}
use Rattle.std.proofs.lemmas.List.{get_or_default}
use Rattle.std.proofs.lemmas.List.Edits.{map_over_more}
use Rattle.iom_held.specs.Kept.{named_by}
use Rattle.iom_held.proofs.shelves.name_all.Goals as goal

pub loop-each-preserved : goal.loop-each-preserved
loop-each-preserved c =
    let l = c.loop-each in
    let each = get_or l.kept l.each-index c.each-item.result in
    rw c.named_by.ensures (map_over_more (named_by c.args.number c.args.command.now) c.args.kept.now l.kept l.each-index each
    c.loop-each-test.true l.invariant (get_or_default l.kept l.each-index c.each-item.result each (omega arith)))
