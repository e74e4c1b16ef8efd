use Rattle.std.proofs.Common.{◌⊎◌, drop}
use Rattle.iom_choices.specs.Systems.{IsAmong}
use Rattle.iom_core.specs.declared.way.Way.{Way as Led}
use Rattle.iom_owed.specs.Alike.{IsAlike}
use Rattle.iom_owed.proofs.settling.first_other.Given as goal

-- each is like this one, or remains
abbrev pub invariant-loop-way : goal.invariant-loop-way
invariant-loop-way l = (way : Led) → IsAmong l.led way → IsAlike l.whole l.iova way l.tables ⊎ IsAmong (drop l.way-index l.led) way
