use Rattle.std.proofs.Common.{length}
use Rattle.iom_bits.proofs.features.+shown_bits.Given as goal

abbrev pub decreases-shown_bits : goal.decreases-shown_bits
decreases-shown_bits l = length l.rows.now
