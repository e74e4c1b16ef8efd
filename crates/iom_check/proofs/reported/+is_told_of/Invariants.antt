use Rattle.std.proofs.Common.{length}
use Rattle.iom_check.proofs.reported.+is_told_of.Given as goal

abbrev pub decreases-is_told_of : goal.decreases-is_told_of
decreases-is_told_of l = length l.pages.now
