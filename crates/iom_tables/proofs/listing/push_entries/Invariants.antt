use Rattle.std.proofs.Common.{◌≡◌, ◌++◌, ◌+◌, ◌*◌, ◌≤◌, drop}
use Rattle.std.specs.Prelude.{flat_map}
use Rattle.arrayvec.specs.ArrayVec.{array_vec_len}
use Rattle.iom_tables.specs.Parts.{entry_parts}
use Rattle.iom_tables.proofs.listing.push_entries.Given as goal

-- what was listed, and then what is left, is all that is to be listed
abbrev pub invariant-loop-entry : goal.invariant-loop-entry
invariant-loop-entry l = record {
  room : array_vec_len l.out ≤ array_vec_len l.initial.out + 6 * l.entry-index;
  left : l.out.items ++ flat_map (entry_parts l.ram l.features l.context) (drop l.entry-index l.entry-items)
      ≡ l.initial.out.items ++ flat_map (entry_parts l.ram l.features l.context) l.entry-items;
}
