use Rattle.iom_slips.proofs.Stopped.{are_stopped}
use Rattle.std.proofs.Common.{refl}
use Rattle.iom_tool.specs.Script.{rows}
use Rattle.iom_slips.specs.Patterns.{patterns}
use Rattle.iom_slips.proofs.Taken.{are_taken}
use Rattle.iom_slips.proofs.Told.{are_told}
use Rattle.iom_slips.proofs.telling.slips_are_told.Goals as goal

pub returns-clause-rows : goal.returns-clause-rows
unfolding rows patterns
returns-clause-rows c = refl

pub returns-clause-told : goal.returns-clause-told
returns-clause-told c = are_told

pub returns-clause-taken : goal.returns-clause-taken
returns-clause-taken c = are_taken

pub returns-clause-stopped : goal.returns-clause-stopped
returns-clause-stopped c = are_stopped
