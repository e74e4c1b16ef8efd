use Rattle.std.proofs.Common.{◌≡◌, ◌<◌, length, drop}
use Rattle.iom_virtq.specs.Chains.{items_from}
use Rattle.iom_virtq.proofs.pieces.piece_of.Given as goal

-- what is left of the parts that are left is what is left of all
abbrev pub invariant-loop-part : goal.invariant-loop-part
invariant-loop-part l = record {
  within : l.rest < length (items_from l.side l.part-index (drop l.part-index l.parts));
  left : drop l.rest (items_from l.side l.part-index (drop l.part-index l.parts)) ≡ drop l.position (items_from l.side 0 l.parts);
}
