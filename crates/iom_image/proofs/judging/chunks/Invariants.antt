use Rattle.std.proofs.Common.{◌≡◌, ◌-◌}
use Rattle.iom_image.specs.Reading.{rest_of, chunks_at}
use Rattle.iom_image.proofs.judging.chunks.Given as goal

abbrev pub invariant-loop : goal.invariant-loop
invariant-loop l =
    rest_of (chunks_at l.header.base l.header.size l.free (l.header.chunks - l.counter) l.rest)
    ≡ rest_of (chunks_at l.header.base l.header.size 0 l.header.chunks l.bytes)
