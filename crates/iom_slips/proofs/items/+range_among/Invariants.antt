use Rattle.std.proofs.Common.{length}
use Rattle.iom_slips.proofs.items.+range_among.Given as goal

abbrev pub decreases-range_among : goal.decreases-range_among
decreases-range_among l = length l.fields.now
