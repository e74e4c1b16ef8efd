use Rattle.std.proofs.Common.{◌∙◌, sym}
use Rattle.iom_ways.proofs.Stages.{refused}
use Rattle.iom_ways.proofs.access.put_access.Goals as goal

pub returns-in-Err : goal.returns-in-Err
returns-in-Err g c = λ found told.
    refused c.put_staged.result _ _ _ _ _ _ _ _ _ found _ _ (sym c.in-Err.is ∙ told) c.put_staged.ensures
