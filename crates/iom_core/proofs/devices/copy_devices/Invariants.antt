use Rattle.std.proofs.Common.{◌≡◌, take}
use Rattle.iom_core.proofs.devices.copy_devices.Given as goal

-- the devices so far were copied
abbrev pub invariant-loop-did : goal.invariant-loop-did
invariant-loop-did l = l.copies.items ≡ take l.did-index l.devices
