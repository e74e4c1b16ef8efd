use Rattle.std.proofs.Common.{◌∙◌, arith}
use Rattle.std.proofs.lemmas.Result.{err_from_is_err_and}
use Rattle.iom_image.proofs.Filling.{size_put, fill_goes_on, fill_fails, fill_done}
use Rattle.iom_image.proofs.opening.fill.Goals as goal

pub returns-in_err-part : goal.returns-in_err-part
returns-in_err-part c =
    let p = err_from_is_err_and c.from_residual.result c.from_residual.ensures.1 in
    rw (p.1, p.2) (fill_fails _ _ _ _ _ _ _ _ _ c.loop-test.true c.in_err-part.ensures.read.0 c.loop.invariant.so_far, c.in_err-part.ensures.read.1)

pub loop-preserved : goal.loop-preserved
loop-preserved c = record {
  so_far = rw c.store.ensures (fill_goes_on _ _ _ _ _ _ _ _ _ _ c.loop-test.true c.in_ok-part.ensures.read c.loop.invariant.so_far);
  base = rw c.store.ensures c.loop.invariant.base;
  size = rw c.store.ensures (size_put c.loop.ram c.in_ok-part.part.addr c.in_ok-part.part.bytes.now
      (omega (arith, c.loop.invariant.base, c.in_ok-part.ensures.above))
      (omega (arith, c.loop.invariant.base, c.loop.invariant.size, c.in_ok-part.ensures.below)) ∙ c.loop.invariant.size);
}

pub returns : goal.returns
returns c = fill_done _ _ _ _ _ _ _ _ c.loop-test.false c.loop.invariant.so_far
