use Rattle.std.proofs.Common.{◌≡◌, ◌≤◌, ◌++◌, drop}
use Rattle.arrayvec.specs.ArrayVec.{array_vec_len}
use Rattle.iom_ways.proofs.path.path_with.Given as goal

-- what is copied, and then what is left, is all
abbrev pub invariant-loop-before : goal.invariant-loop-before
invariant-loop-before l = record {
  room : array_vec_len l.longer ≤ l.before-index;
  left : l.longer.items ++ drop l.before-index l.path ≡ l.path;
}
