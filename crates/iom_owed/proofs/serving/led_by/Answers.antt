use Rattle.std.proofs.Common.{◌↔◌, ◌∷◌, [], List, subst}
use Rattle.iom_choices.specs.Systems.{IsAmong}
use Rattle.iom_core.specs.State.{State, state_on}
use Rattle.iom_core.specs.declared.way.Way.{Way as Led}
use Rattle.iom_every.specs.Rows.{bare}
use Rattle.iom_held.specs.Kept.{entries_in}
use Rattle.iom_held.specs.declared.kept.Kept.{Kept}
use Rattle.iom_owed.specs.Alike.{IsAlike}
use Rattle.iom_owed.specs.Alone.{leads_over}
use Rattle.iom_owed.proofs.Lists.{added_to_none}
use Rattle.iom_owed.proofs.Results.{if_none, if_some}
use Rattle.iom_owed.proofs.serving.led_by.Goals as goal

pub returns-clause-found : goal.returns-clause-found
returns-clause-found g c =
    let state : State = bare (state_on (g.M.Region.memory c.args.ram.now) c.args.board.now) in
    let over : List Kept → List Led = λ held. leads_over state c.args.request.now (entries_in held) in
    let listed : (way : Led) → IsAmong c.deref.result.now way ↔ IsAmong (over (c.args.kept.now ∷ [])) way =
    subst (λ (held : List Kept). (way : Led) → IsAmong c.deref.result.now way ↔ IsAmong (over held) way) c.in_ok-one.ensures
    (rw c.deref.ensures.value (added_to_none (over c.in_ok-one.one) _ c.in_ok-gather.ensures.led)) in
    if_some c.first_other.result (IsAmong c.deref.result.now) (IsAmong (over (c.args.kept.now ∷ [])))
    (λ way among. (listed way).0 among) c.first_other.ensures.found

pub returns-clause-none : goal.returns-clause-none
returns-clause-none g c =
    let state : State = bare (state_on (g.M.Region.memory c.args.ram.now) c.args.board.now) in
    let over : List Kept → List Led = λ held. leads_over state c.args.request.now (entries_in held) in
    let listed : (way : Led) → IsAmong c.deref.result.now way ↔ IsAmong (over (c.args.kept.now ∷ [])) way =
    subst (λ (held : List Kept). (way : Led) → IsAmong c.deref.result.now way ↔ IsAmong (over held) way) c.in_ok-one.ensures
    (rw c.deref.ensures.value (added_to_none (over c.in_ok-one.one) _ c.in_ok-gather.ensures.led)) in
    let Alike : Led → Type 0 = λ way. IsAlike c.args.whole c.args.request.now.iova way c.args.tables.now in
    if_none c.first_other.result ((way : Led) → IsAmong c.deref.result.now way → Alike way) ((way : Led) → IsAmong (over (c.args.kept.now ∷ [])) way → Alike way)
    (λ none way among. none way ((listed way).1 among)) c.first_other.ensures.none
