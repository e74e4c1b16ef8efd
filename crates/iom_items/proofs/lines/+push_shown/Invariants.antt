use Rattle.std.proofs.Common.{length}
use Rattle.iom_items.proofs.lines.+push_shown.Given as goal

abbrev pub decreases-push_shown : goal.decreases-push_shown
decreases-push_shown l = length l.fields.now
