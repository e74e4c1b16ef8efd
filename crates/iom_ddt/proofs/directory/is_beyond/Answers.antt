-- Each goal by one tactic, so that a wrong body is refused without a long search.
use Rattle.std.proofs.Common.{arith}
use Rattle.iom_ddt.proofs.directory.is_beyond.Goals as goal

pub returns-then-ddi-ne0 : goal.returns-then-ddi-ne0
returns-then-ddi-ne0 c = grind arith

pub returns-then-levels-lt2 : goal.returns-then-levels-lt2
returns-then-levels-lt2 c = grind arith

pub returns-else-levels-lt2 : goal.returns-else-levels-lt2
returns-else-levels-lt2 c = grind arith
