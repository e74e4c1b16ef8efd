use Rattle.iom_tool.specs.Script.{rows}
use Rattle.iom_tool.proofs.matching.found.Goals as goal

pub returns-clause-line : goal.returns-clause-line
unfolding rows
returns-clause-line c = c.first_of.ensures.line
