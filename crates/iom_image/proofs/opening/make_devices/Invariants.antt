use Rattle.std.proofs.Common.{◌≡◌, ◌-◌, [], length}
use Rattle.iom_image.specs.Loading.{joined}
use Rattle.iom_image.specs.Reading.{disks_at}
use Rattle.iom_image.proofs.opening.make_devices.Given as goal

abbrev pub invariant-loop : goal.invariant-loop
invariant-loop l = record {
  so_far : joined l.devices.items (disks_at l.has_flags l.ids.items (l.count - l.counter) l.rest) ≡ joined [] (disks_at l.has_flags [] l.count l.bytes);
  ids : length l.ids.items ≡ l.counter;
}
