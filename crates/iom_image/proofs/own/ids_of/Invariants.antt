use Rattle.std.proofs.Common.{◌≡◌, map, take, length}
use Rattle.iom_image.proofs.own.ids_of.Given as goal

-- the ids of the disks so far
abbrev pub invariant-loop-disk : goal.invariant-loop-disk
invariant-loop-disk l = record {
  ids : l.ids.items ≡ map (λ disk. disk.id) (take l.disk-index l.disks);
  count : length l.ids.items ≡ l.disk-index;
}
