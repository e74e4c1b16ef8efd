use Rattle.std.proofs.Common.{refl, subst}
use Rattle.iom_choices.specs.Systems.{IsAmong}
use Rattle.iom_ways.proofs.Gathering.{among_read}
use Rattle.iom_judge.proofs.holding.has_place.Goals as goal

pub returns-then-is_place : goal.returns-then-is_place
returns-then-is_place c = λ found.
    subst (IsAmong c.args.places.now) (c.is_place.ensures c.if-is_place.true)
    (among_read c.args.places.now c.loop-own.own-index _ _ c.loop-own-test.true refl)
