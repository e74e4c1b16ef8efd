use Rattle.std.proofs.Common.{arith}
use Rattle.iom_virtq.proofs.Rest.{rest_step, within_step, never_past}
use Rattle.iom_virtq.proofs.Runs.{address_here, count_here}
use Rattle.iom_virtq.proofs.Longest.{piece_is}
use Rattle.iom_virtq.proofs.pieces.piece_of.Goals as goal

pub returns-then-rest-len-clause-address : goal.returns-then-rest-len-clause-address
returns-then-rest-len-clause-address c =
    address_here _ _ _ _ _ _ _ c.loop-part-test.true c.len_on-len.ensures.len c.if-rest-len.true c.loop-part.invariant.left

pub returns-then-rest-len-clause-count : goal.returns-then-rest-len-clause-count
returns-then-rest-len-clause-count c =
    count_here _ _ _ _ _ _ _ _ c.loop-part-test.true c.len_on-len.ensures.len c.if-rest-len.true c.loop-part.invariant.left
    (omega (arith, c.min.ensures, c.min-count.ensures))

pub returns-then-rest-len-clause-piece : goal.returns-then-rest-len-clause-piece
returns-then-rest-len-clause-piece c =
    piece_is _ _ _ _ c.requires.within (returns-then-rest-len-clause-address c) (returns-then-rest-len-clause-count c)

pub loop-part-preserved : goal.loop-part-preserved
loop-part-preserved c = record {
  within =
      within_step _ _ _ _ _ _ c.loop-part-test.true c.len_on-len.ensures.len c.if-rest-len.false c.loop-part.invariant.within;
  left =
      rest_step _ _ _ _ _ _ _ c.loop-part-test.true c.len_on-len.ensures.len c.if-rest-len.false c.loop-part.invariant.left;
}

pub unreachable-requires : goal.unreachable-requires
unreachable-requires c = never_past _ _ _ _ c.loop-part-test.false c.loop-part.invariant.within
