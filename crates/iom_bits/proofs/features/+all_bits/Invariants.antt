use Rattle.std.proofs.Common.{length}
use Rattle.iom_bits.proofs.features.+all_bits.Given as goal

abbrev pub decreases-all_bits : goal.decreases-all_bits
decreases-all_bits l = length l.rows.now
