-- Translations of the host and of guests: RISC-V IOMMU Architecture 1.0, "IOTINVAL".
use Rattle.std.specs.Prelude.{◌≡◌, Bool, true, false, not}
use Rattle.std.specs.Option.{is_none}
use Rattle.iom_nested.specs.declared.translation.Hit.{Hit}
use Rattle.iom_queue.specs.declared.command.Command.{Command}
use Rattle.iom_queue.specs.declared.command.Command.TheVariants.{Vma}
use Rattle.iom_cache.specs.declared.key.Key.{Key}
use Rattle.iom_cache.specs.Drops.{drops_page}

-- a command on the host's translations: IOTINVAL.VMA with GV 0
abbrev pub is_of_host : Command → Bool
is_of_host (Vma av page pscv pscid gv gscid nl s) = not gv
is_of_host other = false

-- What it drops has no second stage, and what any other command drops has one.
abbrev pub DropsItsOwn : Type 0
DropsItsOwn = (command : Command) (key : Key) (hit : Hit) → drops_page command key hit ≡ true → is_none key.gscid ≡ is_of_host command
