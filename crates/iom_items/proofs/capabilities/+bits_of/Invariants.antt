use Rattle.std.proofs.Common.{length}
use Rattle.iom_items.proofs.capabilities.+bits_of.Given as goal

abbrev pub decreases-bits_of : goal.decreases-bits_of
decreases-bits_of l = length l.rows.now
