-- A device that asks for something.
use Rattle.std.proofs.Common.{◌≡◌, Bool, true, false, Some, None, IsSome, refl, arith, if◌then◌else◌}
use Rattle.iom_virtq.specs.Bus.{Ask}
use Rattle.iom_blk.specs.Device.{Device}
use Rattle.iom_blk.specs.Phases.{ask_of, asks, is_active}

then_active : (active : Bool) (ask : Ask) → IsSome (if active then Some ask else None) → active ≡ true
then_active true ask some = refl
then_active false ask some = some

active_is_ready : (d : Device) → is_active d ≡ true → d.ready ≡ true
unfolding is_active
active_is_ready d active = grind (arith, active)

pub asked_is_ready : (d : Device) → IsSome (asks d) → d.ready ≡ true
unfolding asks
asked_is_ready d some = active_is_ready d (then_active (is_active d) (ask_of d d.phase) some)
