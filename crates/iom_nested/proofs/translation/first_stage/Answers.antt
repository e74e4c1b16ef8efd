-- Each goal by one tactic, so that a wrong body is refused without a long search.
use Rattle.std.proofs.Common.{rules}
use Rattle.iom_nested.proofs.translation.first_stage.Goals as goal

pub returns-clause-reached : goal.returns-clause-reached
returns-clause-reached g c = search rules

pub returns-in_default-clause-reached : goal.returns-in_default-clause-reached
returns-in_default-clause-reached g c = search rules
