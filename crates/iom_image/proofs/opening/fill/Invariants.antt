use Rattle.std.proofs.Common.{◌≡◌, ◌-◌, length}
use Rattle.iom_image.specs.Loading.{filled}
use Rattle.iom_image.specs.Reading.{chunks_at}
use Rattle.iom_image.proofs.opening.fill.Given as goal

abbrev pub invariant-loop : goal.invariant-loop
invariant-loop l = record {
  so_far : filled l.ram (chunks_at l.header.base l.header.size l.free (l.header.chunks - l.counter) l.rest)
      ≡ filled l.initial.ram (chunks_at l.header.base l.header.size 0 l.header.chunks l.bytes);
  base : l.ram.base ≡ l.header.base;
  size : length l.ram.bytes ≡ l.header.size;
}
