use Rattle.std.proofs.Common.{length}
use Rattle.iom_image.proofs.writing.+push_disks.Given as goal

abbrev pub decreases-push_disks : goal.decreases-push_disks
decreases-push_disks l = length l.disks.now
