use Rattle.std.proofs.Common.{[], ◌∷◌, Option, Some, subst}
use Rattle.iom_core.specs.Access.{address_on}
use Rattle.iom_core.specs.declared.way.Way.{Way as Led}
use Rattle.iom_every.specs.Ways.{Goes}
use Rattle.iom_ways.specs.Ways.{AreAdded}
use Rattle.iom_judge.proofs.Reading.{places_end, places_next}
use Rattle.iom_judge.proofs.holding.put_places.Goals as goal

pub loop-way-preserved : goal.loop-way-preserved
loop-way-preserved c =
    let place : Led → Option Goes = λ way. Some (address_on way c.args.iova) in
    places_next place c.args.led.now _ _ c.loop-way.way-index _ _ _ c.loop-way-test.true c.way-item.is c.loop-way.invariant
    (subst (λ (to : Goes). AreAdded (Some to ∷ []) c.loop-way.places.items c.put_place.new.places.items) c.address.ensures c.in_ok-put_place.ensures)

pub returns : goal.returns
returns c =
    let place : Led → Option Goes = λ way. Some (address_on way c.args.iova) in
    places_end place c.args.led.now _ _ c.loop-way.way-index _ c.loop-way-test.false c.loop-way.invariant
