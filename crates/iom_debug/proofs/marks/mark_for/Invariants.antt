use Rattle.std.proofs.Common.{◌≡◌, length, reverse}
use Rattle.iom_debug.specs.Marks.{mark_for}
use Rattle.iom_debug.proofs.marks.mark_for.Given as goal

abbrev pub invariant-loop-newest : goal.invariant-loop-newest
invariant-loop-newest l = mark_for (reverse l.rest) l.number ≡ mark_for (reverse l.marks) l.number

abbrev pub decreases-loop-newest : goal.decreases-loop-newest
decreases-loop-newest l = length l.rest
