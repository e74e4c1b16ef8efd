use Rattle.iom_held.proofs.Forgotten.{LeftTo}
use Rattle.iom_held.proofs.shelves.follow_each.Given as goal

abbrev pub invariant-loop-i : goal.invariant-loop-i
invariant-loop-i l = LeftTo l.number l.command l.i l.initial.shelves l.shelves
