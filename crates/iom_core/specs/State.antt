-- The platform's state.
use Rattle.std.specs.Prelude.{ℕ, ◌≡◌, ◌^◌, ◌<◌, ◌≤◌, ◌==◌, Bool, false, List, [], ◌∷◌, length, map, slice_set, Option, None}
use Rattle.std.specs.List.{list_any}
use Rattle.iom_bits.specs.Features.{Features, no_features}
use Rattle.iom_mem.specs.Memory.{Memory}
use Rattle.iom_messages.specs.Messages.{Messages, none_sent}
use Rattle.iom_messages.specs.declared.window.Window.{Window}
use Rattle.iom_regs.specs.Table.{Registers, reset}
use Rattle.iom_ddt.specs.declared.context.Context.{Context}
use Rattle.iom_nested.specs.declared.translation.Hit.{Hit}
pub use Rattle.iom_cache.specs.Places.{context_room, page_room}
use Rattle.iom_cache.specs.declared.key.Key.{Key}
use Rattle.iom_blk.specs.Device.{Device}

-- memory, and the IOMMU in front of it: its registers, and both caches as lists of places, oldest first
pub record Machine : Type 0 where
  pub memory : Memory
  pub registers : Registers
  pub contexts : List (Option (ℕ × Context))
  pub pages : List (Option (Key × Hit))

-- the IOMMU without the memory that it stands in front of
pub record Iommu : Type 0 where
  pub registers : Registers
  pub contexts : List (Option (ℕ × Context))
  pub pages : List (Option (Key × Hit))

-- a memory with this IOMMU in front of it
abbrev pub in_front_of : Memory → Iommu → Machine
in_front_of memory iommu =
    record { memory = memory; registers = iommu.registers; contexts = iommu.contexts; pages = iommu.pages }

-- the machine, the messages that were sent, and the block devices with their ids, in the order in which they were handed in
pub record State : Type 0 where
  pub machine : Machine
  pub messages : Messages
  pub devices : List (ℕ × Device)

-- a platform without its memory: the IOMMU, the messages that were sent, and the block devices
pub record Board : Type 0 where
  pub iommu : Iommu
  pub messages : Messages
  pub devices : List (ℕ × Device)

-- a memory with this board
abbrev pub state_on : Memory → Board → State
state_on memory board = record { machine = in_front_of memory board.iommu; messages = board.messages; devices = board.devices }

-- the board of these registers, caches, messages and devices
abbrev pub board_of : Registers → List (Option (ℕ × Context)) → List (Option (Key × Hit)) → Messages → List (ℕ × Device) → Board
board_of registers contexts pages messages devices = record {
  iommu = record { registers = registers; contexts = contexts; pages = pages };
  messages = messages;
  devices = devices;
}

-- the disk of a device
abbrev pub disk_of : ℕ × Device → List ℕ
disk_of own = own.1.disk

-- the state with another machine
abbrev pub with_machine : State → Machine → State
with_machine s machine = record s { machine = machine }

-- the state with another machine and other messages
abbrev pub with_outside : State → Machine → Messages → State
with_outside s machine messages = record s { machine = machine; messages = messages }

-- the state in which device n, whose id stays, is another
abbrev pub with_device : State → ℕ → ℕ → Device → State
with_device s n did device = record s { devices = slice_set s.devices n (did, device) }

-- a device id has 24 bits
abbrev pub device_id_end : ℕ
device_id_end = 2 ^ 24

-- each device's id has no more
abbrev pub EachFits : List (ℕ × Device) → Type 0
EachFits [] = Unit {0}
EachFits (own ∷ more) = (own.0 < device_id_end) × EachFits more

-- whether an id is one of these
abbrev pub is_id_among : List ℕ → ℕ → Bool
is_id_among ids id = list_any (λ other. other == id) ids

-- no two of these ids are the same
abbrev pub AreDistinct : List ℕ → Type 0
AreDistinct [] = Unit {0}
AreDistinct (id ∷ ids) = (is_id_among ids id ≡ false) × AreDistinct ids

abbrev pub ids_of : List (ℕ × Device) → List ℕ
ids_of devices = map (λ own. own.0) devices

-- how many block devices a platform has at most
abbrev pub most_devices : ℕ
most_devices = 8

-- the block devices that a platform may have
pub record AreDevices (devices : List (ℕ × Device)) : Type 0 where
  pub few : length devices ≤ most_devices
  pub fit : EachFits devices
  pub distinct : AreDistinct (ids_of devices)

-- an IOMMU of these features at reset, with nothing cached, a window into which nothing was sent, and these block devices
abbrev pub board_with : Features → Option Window → List (ℕ × Device) → Board
board_with features window devices = record {
  iommu = record { registers = reset features; contexts = []; pages = [] };
  messages = none_sent window;
  devices = devices;
}

-- a platform with an IOMMU of these features, and this window, that nothing has happened to yet
abbrev pub opening_with : Features → Option Window → Memory → List (ℕ × Device) → State
opening_with features window memory devices = record {
  machine = record { memory = memory; registers = reset features; contexts = []; pages = [] };
  messages = none_sent window;
  devices = devices;
}

-- a platform that nothing has happened to yet, whose IOMMU has none of the features, without a window
abbrev pub opening : Memory → List (ℕ × Device) → State
opening memory devices = opening_with no_features None memory devices
