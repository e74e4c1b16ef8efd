use Rattle.std.proofs.Common.{rules, arith}
use Rattle.iom_mem.specs.Lent.{memory_of}
use Rattle.iom_mem.proofs.Bytes.{bytes_at_past, bytes_at_below, bytes_at_inside}
use Rattle.iom_mem.proofs.placed.place.Goals as goal

pub returns-then-at-places-clause-inside : goal.returns-then-at-places-clause-inside
returns-then-at-places-clause-inside c =
    bytes_at_inside (memory_of c.args.base c.args.words.now) c.args.addr c.in_ok-at.at c.args.len (grind arith) (grind arith)

pub returns-else-at-places-clause-beyond : goal.returns-else-at-places-clause-beyond
returns-else-at-places-clause-beyond c = search (rules, bytes_at_inside, bytes_at_below, bytes_at_past)

pub returns-else-at-places-clause-outside : goal.returns-else-at-places-clause-outside
returns-else-at-places-clause-outside c = search (rules, bytes_at_inside, bytes_at_below, bytes_at_past)
