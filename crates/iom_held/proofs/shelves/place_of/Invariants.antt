use Rattle.std.proofs.Common.{drop}
use Rattle.iom_choices.specs.Systems.{IsAmong}
use Rattle.iom_held.specs.Kept.{entries_in}
use Rattle.iom_held.proofs.shelves.place_of.Given as goal

-- if it is there, it is among those that remain
abbrev pub invariant-loop-i : goal.invariant-loop-i
invariant-loop-i l = IsAmong (entries_in l.kept) l.entry → IsAmong (entries_in (drop l.i l.kept)) l.entry
