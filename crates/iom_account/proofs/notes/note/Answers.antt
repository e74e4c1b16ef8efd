use Rattle.std.proofs.Common.{rules}
use Rattle.iom_account.proofs.notes.note.Goals as goal

pub returns : goal.returns
returns g c = search rules
