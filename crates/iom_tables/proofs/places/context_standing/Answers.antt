use Rattle.std.proofs.Common.{rules}
use Rattle.iom_tables.proofs.places.context_standing.Goals as goal

pub returns-in-Context : goal.returns-in-Context
returns-in-Context c = search rules
