-- Each goal by one tactic, so that a wrong body is refused without a long search.
use Rattle.std.proofs.Common.{rules}
use Rattle.iom_ddt.proofs.context.Context.is_bare.Goals as goal

pub returns-then-self-eq0-2 : goal.returns-then-self-eq0-2
returns-then-self-eq0-2 c = search rules

pub returns-else-self-eq0-2 : goal.returns-else-self-eq0-2
returns-else-self-eq0-2 c = search rules
