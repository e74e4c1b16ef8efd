use Rattle.std.proofs.lemmas.Result.{err_from_is_err_and}
use Rattle.iom_image.proofs.Loops.{chunks_go_on, chunks_fail, chunks_done}
use Rattle.iom_image.proofs.judging.chunks.Goals as goal

pub returns-in_err-part : goal.returns-in_err-part
returns-in_err-part c =
    let p = err_from_is_err_and c.from_residual.result c.from_residual.ensures.1 in
    rw (p.1, p.2) (chunks_fail _ _ _ _ _ _ _ _ c.loop-test.true c.in_err-part.ensures.read.0 c.loop.invariant, c.in_err-part.ensures.read.1)

pub loop-preserved : goal.loop-preserved
loop-preserved c = chunks_go_on _ _ _ _ _ _ _ _ _ c.loop-test.true c.in_ok-part.ensures.read c.loop.invariant

pub returns : goal.returns
returns c = chunks_done _ _ _ _ _ _ _ c.loop-test.false c.loop.invariant
