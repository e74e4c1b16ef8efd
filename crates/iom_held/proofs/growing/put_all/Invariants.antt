use Rattle.std.proofs.Common.{◌<◌, List, drop, length}
use Rattle.iom_held.specs.Kept.{Renews, entry_of}
use Rattle.iom_held.specs.Shelves.{StandInPlace, entries_on}
use Rattle.iom_held.specs.declared.kept.Kept.{Kept}
use Rattle.iom_held.proofs.growing.put_all.Given as goal

-- what is done and what remains are all
abbrev pub invariant-loop-each : goal.invariant-loop-each
invariant-loop-each l = record {
  some : 0 < length l.shelves;
  in_place : StandInPlace l.shelves;
  rest : (after : List Kept) → Renews entry_of (drop l.each-index l.kept) (entries_on l.shelves) after → Renews entry_of l.kept (entries_on l.initial.shelves) after;
}
