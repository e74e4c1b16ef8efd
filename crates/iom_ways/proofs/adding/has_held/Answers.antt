use Rattle.std.proofs.Common.{refl, subst}
use Rattle.iom_choices.specs.Systems.{IsAmong}
use Rattle.iom_ways.proofs.Gathering.{among_read}
use Rattle.iom_ways.proofs.adding.has_held.Goals as goal

pub returns-then-is_same_held : goal.returns-then-is_same_held
returns-then-is_same_held c = λ found.
    subst (IsAmong c.args.entries.now) (c.is_same_held.ensures.0 c.if-is_same_held.true)
    (among_read c.args.entries.now c.loop-own.own-index _ _ c.loop-own-test.true refl)
