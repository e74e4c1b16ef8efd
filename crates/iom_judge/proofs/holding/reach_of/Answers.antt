use Rattle.std.proofs.Common.{List, [], map, Option, Some, refl, subst}
use Rattle.iom_core.specs.Access.{address_on}
use Rattle.iom_core.specs.Rows.{bare}
use Rattle.iom_core.specs.State.{State, state_on}
use Rattle.iom_core.specs.declared.way.Way.{Way as Led}
use Rattle.iom_every.specs.Ways.{Goes}
use Rattle.iom_held.specs.Kept.{entries_in}
use Rattle.iom_owed.specs.Alone.{leads_over}
use Rattle.iom_ways.specs.Ways.{AreAdded}
use Rattle.iom_judge.proofs.Reading.{places_are}
use Rattle.iom_judge.proofs.holding.reach_of.Goals as goal

pub returns-clause-goes : goal.returns-clause-goes
returns-clause-goes c =
    let state : State = state_on c.platform.inside.ram c.platform.inside.board in
    let led : AreAdded (leads_over (bare state) c.args.request.now (entries_in c.args.held.now)) [] c.deref.result.now = rw c.deref.ensures.value c.in_ok-gather.ensures.led in
    places_are state c.args.platform.now (entries_in c.args.held.now) (Some c.args.request.now) c.args.request.now c.deref.result.now c.put_places.new.places.items c.platform.view_is refl led
    (subst (λ (before : List (Option Goes)). AreAdded (map (λ (way : Led). Some (address_on way c.args.request.now.iova)) c.deref.result.now) before c.put_places.new.places.items) c.clear.ensures.items c.in_ok-put_places.ensures)
