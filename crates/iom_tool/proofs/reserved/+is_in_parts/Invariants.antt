use Rattle.std.proofs.Common.{length}
use Rattle.iom_tool.proofs.reserved.+is_in_parts.Given as goal

abbrev pub decreases-is_in_parts : goal.decreases-is_in_parts
decreases-is_in_parts l = length l.parts.now
