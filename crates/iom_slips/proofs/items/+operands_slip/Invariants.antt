use Rattle.std.proofs.Common.{length}
use Rattle.iom_slips.proofs.items.+operands_slip.Given as goal

abbrev pub decreases-operands_slip : goal.decreases-operands_slip
decreases-operands_slip l = length l.words.now
