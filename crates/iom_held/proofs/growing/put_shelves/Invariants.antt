use Rattle.std.proofs.Common.{◌<◌, List, drop, length}
use Rattle.iom_held.specs.Kept.{Renews, entry_of}
use Rattle.iom_held.specs.Shelves.{StandInPlace, entries_on}
use Rattle.iom_held.specs.declared.kept.Kept.{Kept}
use Rattle.iom_held.proofs.growing.put_shelves.Given as goal

-- what is done and what remains are all
abbrev pub invariant-loop-shelf : goal.invariant-loop-shelf
invariant-loop-shelf l = record {
  some : 0 < length l.more;
  in_place : StandInPlace l.more;
  rest : (after : List Kept) → Renews entry_of (entries_on (drop l.shelf-index l.shelves)) (entries_on l.more) after → Renews entry_of (entries_on l.shelves) (entries_on l.initial.more) after;
}
