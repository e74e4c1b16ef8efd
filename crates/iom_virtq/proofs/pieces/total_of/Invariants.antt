use Rattle.std.proofs.Common.{◌≡◌, ◌+◌, ◌*◌, ◌≤◌, length, drop}
use Rattle.iom_virtq.specs.Chains.{items_from}
use Rattle.iom_virtq.proofs.pieces.total_of.Given as goal

-- what was added up, and the bytes of the parts that are left, are all of them
abbrev pub invariant-loop-part : goal.invariant-loop-part
invariant-loop-part l = record {
  fits : l.total ≤ l.part-index * 4294967295;
  left : l.total + length (items_from l.side l.part-index (drop l.part-index l.parts)) ≡ length (items_from l.side 0 l.parts);
}
