use Rattle.std.proofs.Common.{arith}
use Rattle.std.proofs.lemmas.Result.{err_from_is_err_and}
use Rattle.iom_image.proofs.Filling.{join_goes_on, join_fails, join_done}
use Rattle.iom_image.proofs.opening.make_devices.Goals as goal

pub returns-in_err-part : goal.returns-in_err-part
returns-in_err-part c =
    let p = err_from_is_err_and c.from_residual-in_err-part.result c.from_residual-in_err-part.ensures.1 in
    rw (p.1, p.2) (λ _. join_fails _ _ _ _ _ _ _ _ c.loop-test.true (rw c.as_slice.ensures.value at c.in_err-part.ensures.read.0) c.loop.invariant.so_far)

pub loop-preserved : goal.loop-preserved
loop-preserved c = record {
  so_far = rw (c.in_ok-push.ensures.items, c.in_ok-device.ensures, c.push.ensures.items)
      (join_goes_on _ _ _ _ _ _ _ _ _ c.loop-test.true (rw c.as_slice.ensures.value at c.in_ok-part.ensures.read) c.loop.invariant.so_far);
  ids = omega (arith, c.push.ensures.len, c.loop.invariant.ids);
}

pub returns : goal.returns
returns c = join_done _ _ _ _ _ _ _ c.loop-test.false c.loop.invariant.so_far
