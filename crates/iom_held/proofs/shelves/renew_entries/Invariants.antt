use Rattle.std.proofs.Common.{◌<◌, ◌≤◌, List, length, map, take}
use Rattle.iom_held.specs.Kept.{Renews, entry_of, kept_at}
use Rattle.iom_held.specs.Shelves.{HaveRoom, StandInPlace, entries_on}
use Rattle.iom_held.specs.declared.kept.Kept.{Kept}
use Rattle.iom_held.proofs.shelves.renew_entries.Given as goal

-- there is room for what remains, and what is done and what remains are all
abbrev pub invariant-loop-i : goal.invariant-loop-i
invariant-loop-i l = record {
  some : 0 < length l.shelves;
  within : l.i ≤ length l.entries;
  in_place : StandInPlace l.shelves;
  room : HaveRoom l.shelves l.entries l.i;
  rest : (after : List Kept) → Renews entry_of (map (kept_at l.number l.unfenced) (take l.i l.entries)) (entries_on l.shelves) after →
      Renews entry_of (map (kept_at l.number l.unfenced) l.entries) (entries_on l.initial.shelves) after;
}

abbrev pub decreases-loop-i : goal.decreases-loop-i
decreases-loop-i l = l.i
