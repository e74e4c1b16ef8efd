-- Each goal by one tactic, so that a wrong body is refused without a long search.
use Rattle.std.proofs.Common.{arith}
use Rattle.std.proofs.lemmas.Grind.{common_steps}
use Rattle.iom_walk.specs.Verdict.{is_reserved}
use Rattle.iom_walk.proofs.entry.is_reserved.Goals as goal

pub returns-then-pbmt-ne0 : goal.returns-then-pbmt-ne0
unfolding is_reserved
returns-then-pbmt-ne0 c = grind (arith, common_steps)

pub returns-else-pbmt-ne0 : goal.returns-else-pbmt-ne0
unfolding is_reserved
returns-else-pbmt-ne0 c = grind (arith, common_steps)

pub returns-then-not-may_be_napot : goal.returns-then-not-may_be_napot
unfolding is_reserved
returns-then-not-may_be_napot c = grind (arith, common_steps)
