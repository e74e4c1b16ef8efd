use Rattle.std.proofs.Common.{◌≡◌, ◌-◌, [], length}
use Rattle.iom_image.specs.Reading.{rest_of, disks_at}
use Rattle.iom_image.proofs.judging.disks.Given as goal

abbrev pub invariant-loop : goal.invariant-loop
invariant-loop l = record {
  so_far : rest_of (disks_at l.has_flags l.ids.items (l.count - l.counter) l.rest) ≡ rest_of (disks_at l.has_flags [] l.count l.bytes);
  ids : length l.ids.items ≡ l.counter;
}
