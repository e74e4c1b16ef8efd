use Rattle.std.proofs.Common.{length}
use Rattle.iom_tool.proofs.names.+named_in.Given as goal

abbrev pub decreases-named_in : goal.decreases-named_in
decreases-named_in l = length l.table.now
