-- What is written into a platform's own memory.
use Rattle.std.specs.Prelude.{ℕ, ◌≡◌, Bool, true, false, List}
use Rattle.iom_mem.specs.Memory.{put}
use Rattle.iom_core.specs.State.{State}
use Rattle.iom_core.specs.Table.{with_memory}
use Rattle.iom_c.specs.Faults.{ok, outside}
use Rattle.iom_c.specs.declared.held.Held.TheVariants as held
use Rattle.iom_c.specs.declared.owned.Owned.{Owned}

-- a handle with other bytes in memory from an address on: no step was counted, and nothing else has changed
abbrev pub written : Owned → State → ℕ → List ℕ → Owned
written own platform addr bytes =
    record own { held = held.Own (with_memory platform (put platform.machine.memory addr bytes)) }

-- all bytes are inside memory and written, or one is outside and none is
abbrev pub WritesIf : Bool → Owned → Owned → ℕ → Owned → Type 0
WritesIf true new old told after = (told ≡ ok) × (after ≡ new)
WritesIf false new old told after = (told ≡ outside) × (after ≡ old)
