use Rattle.std.proofs.Common.{◌≡◌, ◌++◌, drop}
use Rattle.arrayvec.specs.ArrayVec.{array_vec_len}
use Rattle.iom_every.specs.Trees.{entries_of}
use Rattle.iom_ways.proofs.found.entries_of.Given as goal

-- what is taken, and then what is left, is all
abbrev pub invariant-loop-met : goal.invariant-loop-met
invariant-loop-met l = record {
  room : array_vec_len l.entries ≡ l.met-index;
  left : l.entries.items ++ entries_of (drop l.met-index l.path) ≡ entries_of l.path;
}
