use Rattle.std.proofs.Common.{map, sym, ap, ◌∙◌}
use Rattle.std.proofs.lemmas.List.{take_all}
use Rattle.std.proofs.lemmas.Simd.{map-map}
use Rattle.iom_image.specs.Own.{disk_seen}
use Rattle.iom_image.proofs.own.ids_of.Goals as goal

pub returns : goal.returns
returns c =
    c.loop-disk.invariant.ids ∙ ap (map (λ disk. disk.id)) (take_all c.loop-disk.disk-index c.args.disks.now c.loop-disk-test.false)
    ∙ sym (map-map (λ disk. disk.id) disk_seen c.args.disks.now)
