use Rattle.std.proofs.Common.{arith}
use Rattle.iom_virtq.proofs.Rest.{total_step, total_end}
use Rattle.iom_virtq.proofs.pieces.total_of.Goals as goal

pub loop-part-preserved : goal.loop-part-preserved
loop-part-preserved c = record {
  fits = omega arith;
  left = total_step _ _ _ _ _ _ _ c.loop-part-test.true c.len_on-total.ensures.len c.loop-part.invariant.left;
}

pub returns-clause-total : goal.returns-clause-total
returns-clause-total c = total_end _ _ _ _ _ c.loop-part-test.false c.loop-part.invariant.left
