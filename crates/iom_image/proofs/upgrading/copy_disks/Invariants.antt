use Rattle.std.proofs.Common.{◌≡◌, ◌-◌, [], length}
use Rattle.iom_image.specs.Reading.{disks_at}
use Rattle.iom_image.specs.Upgrading.{disks_behind}
use Rattle.iom_image.proofs.upgrading.copy_disks.Given as goal

abbrev pub invariant-loop : goal.invariant-loop
invariant-loop l = record {
  so_far : disks_behind l.out.items (disks_at l.has_flags l.ids.items (l.count - l.counter) l.rest)
      ≡ disks_behind l.initial.out.items (disks_at l.has_flags [] l.count l.bytes);
  ids : length l.ids.items ≡ l.counter;
}
