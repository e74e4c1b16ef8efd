use Rattle.std.proofs.Common.{length}
use Rattle.iom_slips.proofs.items.+numbers_slip.Given as goal

abbrev pub decreases-numbers_slip : goal.decreases-numbers_slip
decreases-numbers_slip l = length l.words.now
