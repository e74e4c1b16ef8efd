use Rattle.std.proofs.Common.{length}
use Rattle.iom_items.proofs.lines.+number_for.Given as goal

abbrev pub decreases-number_for : goal.decreases-number_for
decreases-number_for l = length l.fields.now
