use Rattle.std.proofs.Common.{false, subst}
use Rattle.iom_core.specs.State.{State, state_on}
use Rattle.iom_owed.specs.Alone.{IsTold}
use Rattle.iom_owed.specs.Holdings.{HoldingsView}
use Rattle.iom_owed.specs.Newest.{steps_of}
use Rattle.iom_owed.specs.Settled.{IsJudged}
use Rattle.iom_owed.proofs.Judged.{told_judged}
use Rattle.iom_owed.proofs.Results.{if_ok}
use Rattle.iom_owed.proofs.holdings.Holdings.unsettled_by.Goals as goal

pub returns : goal.returns
returns g c = λ ahead start taken k.
    let state : State = state_on (g.M.Region.memory c.args.ram.now) c.args.board.now in
    if_ok c.otherwise.result (IsTold false state c.self.inside.entries c.args.request.now) (IsJudged ahead c.args.self.now start (steps_of taken) c.args.request.now)
    (λ found told. told_judged ahead c.args.self.now state start taken c.args.request.now found k
    (subst (λ (held : HoldingsView). IsTold false state held.entries c.args.request.now found) c.self.view_is told))
    c.otherwise.ensures
