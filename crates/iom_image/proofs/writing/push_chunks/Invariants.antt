use Rattle.std.proofs.Common.{◌≡◌, ◌++◌, map}
use Rattle.iom_image.specs.Image.{chunks_bytes}
use Rattle.iom_image.specs.Own.{chunk_seen, FewBytes}
use Rattle.iom_image.proofs.writing.push_chunks.Given as goal

abbrev pub invariant-loop-addr : goal.invariant-loop-addr
invariant-loop-addr l = record {
  can : (goal.iterator-loop-addr).can_next l.addr-iterator;
  finite : (goal.iterator-loop-addr).is_finite l.addr-iterator;
  so_far : l.out.items ++ chunks_bytes (map chunk_seen l.addr-iterator)
      ≡ l.initial.out.items ++ chunks_bytes (map chunk_seen l.chunks.entries);
  few : FewBytes (map chunk_seen l.addr-iterator);
}
