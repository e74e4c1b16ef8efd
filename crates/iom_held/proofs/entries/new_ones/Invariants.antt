use Rattle.std.proofs.Common.{take}
use Rattle.iom_held.specs.Kept.{AreNew}
use Rattle.iom_held.proofs.entries.new_ones.Given as goal

-- those of the entries so far
abbrev pub invariant-loop-entry : goal.invariant-loop-entry
invariant-loop-entry l = AreNew (take l.entry-index l.entries) l.held l.news.items
