use Rattle.std.proofs.Common.{length}
use Rattle.iom_items.proofs.capabilities.+are_of_rows.Given as goal

abbrev pub decreases-are_of_rows : goal.decreases-are_of_rows
decreases-are_of_rows l = length l.words.now
