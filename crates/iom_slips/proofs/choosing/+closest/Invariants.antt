use Rattle.std.proofs.Common.{length}
use Rattle.iom_slips.proofs.choosing.+closest.Given as goal

abbrev pub decreases-closest : goal.decreases-closest
decreases-closest l = length l.others.now
