use Rattle.std.proofs.Common.{subst}
use Rattle.iom_choices.specs.Systems.{IsAmong}
use Rattle.iom_ways.proofs.Gathering.{among_read}
use Rattle.iom_ways.proofs.adding.has_led.Goals as goal

pub returns-then-is_same-clause-found : goal.returns-then-is_same-clause-found
returns-then-is_same-clause-found c = λ found.
    subst (IsAmong c.args.ways.now) (c.is_same.ensures.0 c.if-is_same.true)
    (among_read c.args.ways.now c.loop-own.own-index c.own-item.result c.own-item.result c.loop-own-test.true c.own-item.is)
