use Rattle.std.proofs.Common.{length}
use Rattle.iom_items.proofs.lines.+are_made.Given as goal

abbrev pub decreases-are_made : goal.decreases-are_made
decreases-are_made l = length l.base.now
