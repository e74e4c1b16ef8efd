use Rattle.std.proofs.Common.{arith}
use Rattle.std.proofs.lemmas.Result.{err_from_is_err_and}
use Rattle.iom_image.proofs.Loops.{disks_go_on, disks_fail, disks_done}
use Rattle.iom_image.proofs.judging.disks.Goals as goal

pub returns-in_err-part : goal.returns-in_err-part
returns-in_err-part c =
    let p = err_from_is_err_and c.from_residual.result c.from_residual.ensures.1 in
    rw (p.1, p.2) (disks_fail _ _ _ _ _ _ _ c.loop-test.true (rw c.as_slice.ensures.value at c.in_err-part.ensures.read.0) c.loop.invariant.so_far, c.in_err-part.ensures.read.1)

pub loop-preserved : goal.loop-preserved
loop-preserved c = record {
  so_far = rw c.push.ensures.items (disks_go_on _ _ _ _ _ _ _ _ c.loop-test.true (rw c.as_slice.ensures.value at c.in_ok-part.ensures.read) c.loop.invariant.so_far);
  ids = omega (arith, c.push.ensures.len, c.loop.invariant.ids);
}

pub returns : goal.returns
returns c = disks_done _ _ _ _ _ _ c.loop-test.false c.loop.invariant.so_far
