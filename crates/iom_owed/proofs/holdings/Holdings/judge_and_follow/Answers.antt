use Rattle.std.proofs.Common.{[], ◌∷◌, Option, refl, sym, subst}
use Rattle.iom_core.specs.State.{State, state_on}
use Rattle.iom_core.specs.Table.{executed, next}
use Rattle.iom_core.specs.declared.access.Request.{Request}
use Rattle.iom_owed.specs.Behind.{KeepsBehind}
use Rattle.iom_owed.specs.Holdings.{HoldingsView, Keeps}
use Rattle.iom_owed.proofs.There.{none_missing}
use Rattle.iom_owed.specs.Newest.{steps_of}
use Rattle.iom_owed.specs.Settled.{IsStepBeside, IsStepJudged}
use Rattle.iom_owed.proofs.Followed.{followed}
use Rattle.iom_owed.proofs.Judged.{step_beside, step_judged}
use Rattle.iom_owed.proofs.holdings.Holdings.judge_and_follow.Goals as goal

pub returns-clause-judged : goal.returns-clause-judged
returns-clause-judged g c = λ ahead start taken k.
    let state : State = state_on (g.M.Region.memory c.args.ram.now) c.args.board.now in
    subst (λ (request : Option Request). IsStepJudged ahead c.args.self.now start (steps_of taken) request c.in_ok-found.found.unsettled) c.request_of-request.ensures.request
    (step_judged ahead c.args.self.now state start taken c.request_of-request.result c.in_ok-found.found k c.in_ok-found.ensures.told)

pub returns-clause-beside : goal.returns-clause-beside
returns-clause-beside g c = λ ahead start taken k.
    let state : State = state_on (g.M.Region.memory c.args.ram.now) c.args.board.now in
    subst (λ (request : Option Request). IsStepBeside ahead c.args.self.now start (steps_of taken) request c.in_ok-found.found) c.request_of-request.ensures.request
    (step_beside ahead c.args.self.now state start taken c.request_of-request.result c.in_ok-found.found k c.in_ok-found.ensures.told)

pub returns-clause-behind : goal.returns-clause-behind
returns-clause-behind g c = λ ahead start taken k.
    let state : State = state_on (g.M.Region.memory c.args.ram.now) c.args.board.now in
    subst (λ (held : HoldingsView). KeepsBehind ahead held (next state c.args.step.now).state start ((c.args.step.now, c.args.number) ∷ taken)) (sym c.follow_command.ensures)
    (followed ahead c.args.self.now c.judge_and_add.new.self state start taken c.args.step.now c.args.number c.request_of-request.result (executed state c.args.step.now)
    c.request_of-request.ensures.request refl c.in_ok-found.ensures.added k)

pub returns-clause-keeps : goal.returns-clause-keeps
returns-clause-keeps g c = λ start taken k.
    let state : State = state_on (g.M.Region.memory c.args.ram.now) c.args.board.now in
    subst (λ (held : HoldingsView). Keeps [] held (next state c.args.step.now).state start ((c.args.step.now, c.args.number) ∷ taken)) (sym c.follow_command.ensures)
    (none_missing _ (next state c.args.step.now).state start ((c.args.step.now, c.args.number) ∷ taken)
    (followed [] c.args.self.now c.judge_and_add.new.self state start taken c.args.step.now c.args.number c.request_of-request.result (executed state c.args.step.now)
    c.request_of-request.ensures.request refl c.in_ok-found.ensures.added k))
