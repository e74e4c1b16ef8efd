use Rattle.std.proofs.Common.{◌≡◌, [], vec_len}
use Rattle.iom_held.specs.Shelves.{entries_on}
use Rattle.iom_held.proofs.shelves.empty_shelves.Given as goal

abbrev pub invariant-loop-i : goal.invariant-loop-i
invariant-loop-i l = record {
  none : entries_on l.shelves.items ≡ [];
  count : vec_len l.shelves ≡ l._i;
}
