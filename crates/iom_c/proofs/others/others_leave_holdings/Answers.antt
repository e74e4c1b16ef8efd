use Rattle.iom_c.proofs.Stores.{others_kept}
use Rattle.iom_c.proofs.others.others_leave_holdings.Goals as goal

pub returns : goal.returns
returns c = others_kept
