use Rattle.std.proofs.Common.{◌≡◌, ◌+◌, ◌≤◌, ◌++◌, map, drop}
use Rattle.arrayvec.specs.ArrayVec.{array_vec_len}
use Rattle.iom_every.specs.declared.entry.Entry.TheVariants.{First as OfFirst}
use Rattle.iom_ways.proofs.found.push_first.Given as goal

-- what is tagged, and then what is left, is all
abbrev pub invariant-loop-held : goal.invariant-loop-held
invariant-loop-held l = record {
  room : array_vec_len l.out ≤ array_vec_len l.initial.out + l.held-index;
  left : l.out.items ++ map (OfFirst l.gscid l.pscid) (drop l.held-index l.held-items)
      ≡ l.initial.out.items ++ map (OfFirst l.gscid l.pscid) l.held-items;
}
