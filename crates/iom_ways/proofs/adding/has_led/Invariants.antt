use Rattle.std.proofs.Common.{drop}
use Rattle.iom_choices.specs.Systems.{IsAmong}
use Rattle.iom_ways.proofs.adding.has_led.Given as goal

-- if it is there, it is among those that remain
abbrev pub invariant-loop-own : goal.invariant-loop-own
invariant-loop-own l = IsAmong l.ways l.led → IsAmong (drop l.own-index l.ways) l.led
