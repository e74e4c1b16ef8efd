use Rattle.std.proofs.Common.{subst}
use Rattle.iom_c.specs.Handles.{BeginsAt}
use Rattle.iom_c.proofs.held.Held.history.Goals as goal

pub returns : goal.returns
returns c = subst (BeginsAt c.new_on.result) c.board.ensures c.new_on.ensures
