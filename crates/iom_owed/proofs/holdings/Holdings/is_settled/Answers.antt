use Rattle.iom_owed.specs.Newest.{steps_of}
use Rattle.iom_owed.proofs.Judged.{told_settled}
use Rattle.iom_owed.proofs.holdings.Holdings.is_settled.Goals as goal

pub returns : goal.returns
returns g c = λ ahead start taken k.
    told_settled ahead c.args.self.now start (steps_of taken) c.args.request.now c.in_ok-unsettled.unsettled c.is_none.result c.is_none.ensures (c.in_ok-unsettled.ensures ahead start taken k)
