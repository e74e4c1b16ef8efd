use Rattle.std.proofs.Common.{ap, map}
use Rattle.iom_image.specs.Own.{chunk_seen}
use Rattle.iom_image.proofs.Pushes.{next_chunk}
use Rattle.iom_image.proofs.writing.push_chunks.Goals as goal

pub push_chunk-requires : goal.push_chunk-requires
push_chunk-requires c = rw c.deref.ensures.value ((rw c.in-Some.ensures.steps at c.loop-addr.invariant.few).0)

pub loop-addr-preserved : goal.loop-addr-preserved
loop-addr-preserved c = record {
  can = tt;
  finite = tt;
  so_far = next_chunk _ _ _ _ _ _ (ap (map chunk_seen) c.in-Some.ensures.steps) (rw c.deref.ensures.value at c.in_ok-push_chunk.ensures) c.loop-addr.invariant.so_far;
  few = (rw c.in-Some.ensures.steps at c.loop-addr.invariant.few).1;
}
