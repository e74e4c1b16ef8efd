use Rattle.std.proofs.Common.{length}
use Rattle.iom_slips.proofs.choosing.+fit.Given as goal

abbrev pub decreases-fit : goal.decreases-fit
decreases-fit l = length l.pieces.now
