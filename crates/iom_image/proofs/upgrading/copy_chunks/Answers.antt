use Rattle.std.proofs.lemmas.Result.{err_from_is_err_and}
use Rattle.iom_image.proofs.Upgraded.{chunks_go_on, chunks_fail, chunks_done}
use Rattle.iom_image.proofs.upgrading.copy_chunks.Goals as goal

pub returns-in_err-part : goal.returns-in_err-part
returns-in_err-part c =
    let p = err_from_is_err_and c.from_residual.result c.from_residual.ensures.1 in
    rw (p.1, p.2) (λ _. chunks_fail _ _ _ _ _ _ _ _ _ c.loop-test.true c.in_err-part.ensures.read.0 c.loop.invariant)

pub loop-preserved : goal.loop-preserved
loop-preserved c = rw c.in_ok-push_chunk.ensures (chunks_go_on _ _ _ _ _ _ _ _ _ _ c.loop-test.true c.in_ok-part.ensures.read c.loop.invariant)

pub returns : goal.returns
returns c = chunks_done _ _ _ _ _ _ _ _ c.loop-test.false c.loop.invariant
