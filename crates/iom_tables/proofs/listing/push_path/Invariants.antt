use Rattle.std.proofs.Common.{◌≡◌, ◌++◌, ◌+◌, ◌≤◌, map, drop}
use Rattle.arrayvec.specs.ArrayVec.{array_vec_len}
use Rattle.iom_tables.specs.declared.part.Part.TheVariants.{Second}
use Rattle.iom_tables.proofs.listing.push_path.Given as goal

-- what was listed, and then what is left, is all that is to be listed
abbrev pub invariant-loop-met : goal.invariant-loop-met
invariant-loop-met l = record {
  room : array_vec_len l.out ≤ array_vec_len l.initial.out + l.met-index;
  left : l.out.items ++ map (Second l.guest) (drop l.met-index l.met-items)
      ≡ l.initial.out.items ++ map (Second l.guest) l.met-items;
}
