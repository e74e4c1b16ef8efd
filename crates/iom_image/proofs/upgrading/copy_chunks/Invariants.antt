use Rattle.std.proofs.Common.{◌≡◌, ◌-◌}
use Rattle.iom_image.specs.Reading.{chunks_at}
use Rattle.iom_image.specs.Upgrading.{chunks_behind}
use Rattle.iom_image.proofs.upgrading.copy_chunks.Given as goal

abbrev pub invariant-loop : goal.invariant-loop
invariant-loop l =
    chunks_behind l.out.items (chunks_at l.header.base l.header.size l.free (l.header.chunks - l.counter) l.rest)
    ≡ chunks_behind l.initial.out.items (chunks_at l.header.base l.header.size 0 l.header.chunks l.bytes)
