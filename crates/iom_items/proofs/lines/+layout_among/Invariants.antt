use Rattle.std.proofs.Common.{length}
use Rattle.iom_items.proofs.lines.+layout_among.Given as goal

abbrev pub decreases-layout_among : goal.decreases-layout_among
decreases-layout_among l = length l.layouts.now
