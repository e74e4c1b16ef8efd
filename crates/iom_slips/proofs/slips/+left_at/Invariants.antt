use Rattle.std.proofs.Common.{length}
use Rattle.iom_slips.proofs.slips.+left_at.Given as goal

abbrev pub decreases-left_at : goal.decreases-left_at
decreases-left_at l = length l.pieces.now
