-- The words of an IOMMU, the messages that were sent, and its block devices.
use Rattle.std.specs.Prelude.{ℕ, List, [], ◌∷◌, ◌++◌, length, Option, Some, None}
use Rattle.std.specs.List.{flat_map}
use Rattle.iom_blk.specs.Device.{Device}
use Rattle.iom_core.specs.State.{Board}
use Rattle.iom_saved.specs.Caches.{contexts_words, pages_words}
use Rattle.iom_saved.specs.Devices.{device_words}
use Rattle.iom_saved.specs.Messages.{messages_words}
use Rattle.iom_saved.specs.Registers.{register_words}

-- a device behind its id
abbrev pub own_words : ℕ × Device → List ℕ
own_words own = own.0 ∷ device_words own.1

-- a device that there may be, behind its id
abbrev pub numbered_words : Option (ℕ × Device) → List ℕ
numbered_words None = []
numbered_words (Some own) = own_words own

-- how many devices there are, and these
abbrev pub devices_words : List (ℕ × Device) → List ℕ
devices_words devices = length devices ∷ flat_map own_words devices

abbrev pub board_words : Board → List ℕ
board_words board = (register_words board.iommu.registers ++ contexts_words board.iommu.contexts)
    ++ (pages_words board.iommu.pages ++ (messages_words board.messages ++ devices_words board.devices))
