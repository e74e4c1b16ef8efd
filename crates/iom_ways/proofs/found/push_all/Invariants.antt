use Rattle.std.proofs.Common.{◌≡◌, ◌+◌, ◌≤◌, ◌++◌, drop}
use Rattle.arrayvec.specs.ArrayVec.{array_vec_len}
use Rattle.iom_ways.proofs.found.push_all.Given as goal

-- what is appended, and then what is left, is all
abbrev pub invariant-loop-entry : goal.invariant-loop-entry
invariant-loop-entry l = record {
  room : array_vec_len l.out ≤ array_vec_len l.initial.out + l.entry-index;
  left : l.out.items ++ drop l.entry-index l.entry-items ≡ l.initial.out.items ++ l.entry-items;
}
