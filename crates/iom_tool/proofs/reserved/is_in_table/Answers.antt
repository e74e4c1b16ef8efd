use Rattle.iom_tool.specs.Script.{rows}
use Rattle.iom_tool.proofs.reserved.is_in_table.Goals as goal

pub returns : goal.returns
unfolding rows
returns c = c.is_in_rows.ensures
