use Rattle.std.proofs.lemmas.List.{take_rest}
use Rattle.iom_image.proofs.Pushes.{next_disk}
use Rattle.iom_image.proofs.writing.+push_disks.Goals as goal

pub returns-in_ok-push_disks-in-len1-up : goal.returns-in_ok-push_disks-in-len1-up
returns-in_ok-push_disks-in-len1-up t c =
    next_disk _ _ _ _ c.args.disks.now c.first-item.result c.in-len1-up.len_at_least c.first-item.is c.in_ok-push_own_disk-in-len1-up.ensures (rw take_rest at c.in_ok-push_disks-in-len1-up.ensures)
