use Rattle.std.proofs.Common.{arith}
use Rattle.iom_text.proofs.Searches.{first_is}
use Rattle.iom_text.proofs.lines.line_end.Goals as goal

pub returns : goal.returns
returns c = grind (arith, first_is)
