-- The platform that an image starts.
use Rattle.std.specs.Prelude.{ℕ, ◌-◌, ◌*◌, ◌++◌, Bool, List, [], ◌∷◌, length, map, replicate, Option, Result, Ok}
use Rattle.iom_bits.specs.Features.{Features}
use Rattle.iom_mem.specs.Memory.{Memory, put}
use Rattle.iom_mem.specs.Sizes.{zeroed}
use Rattle.iom_messages.specs.declared.window.Window.{Window}
use Rattle.iom_blk.specs.Device.{Device, at_reset}
use Rattle.iom_core.specs.State.{State, opening_with}
use Rattle.iom_image.specs.declared.fault.LoadFault.{LoadFault}
use Rattle.iom_image.specs.declared.version.Version.TheVariants.{First}
use Rattle.iom_image.specs.Versions.{features_of, window_of}
use Rattle.iom_image.specs.Image.{Chunk, Disk, Image}
use Rattle.iom_image.specs.Reading.{◌>>=◌, Read}

-- a memory with chunks in the place of what stood there
abbrev pub with_chunks : Memory → List Chunk → Memory
with_chunks memory [] = memory
with_chunks memory (chunk ∷ chunks) = with_chunks (put memory chunk.addr chunk.bytes) chunks

-- of a block device its id, its disk, and whether this may only be read; the disk has its first bytes before zeros
abbrev pub started : Disk → ℕ × List ℕ × Bool
started disk = (disk.id, disk.bytes ++ replicate (disk.sectors * 512 - length disk.bytes) 0, disk.read_only)

-- What an image starts: what the machine offers, its window, memory of zeros but for the chunks, and its block devices' disks.
pub record Start : Type 0 where
  pub features : Features
  pub window : Option Window
  pub memory : Memory
  pub disks : List (ℕ × List ℕ × Bool)

unfoldable pub opening_of : Image → Start
opening_of image = record {
  features = features_of image.version;
  window = window_of image.version;
  memory = with_chunks (zeroed image.base image.size) image.chunks;
  disks = map started image.disks;
}

-- each disk in a block device that was not touched yet
abbrev pub device_of : ℕ × List ℕ × Bool → ℕ × Device
device_of disk = (disk.0, at_reset disk.1 disk.2)

abbrev pub devices_of : List (ℕ × List ℕ × Bool) → List (ℕ × Device)
devices_of disks = map device_of disks

-- nothing has happened yet: registers at reset, and nothing cached
abbrev pub state_of : Start → State
state_of start = opening_with start.features start.window start.memory (devices_of start.disks)

abbrev pub state_from : Image → State
state_from image = state_of (opening_of image)

-- a memory with the chunks that were read
abbrev pub filled : Memory → Read (List Chunk) → Result (Memory × List ℕ) LoadFault
filled memory read = read >>= λ x. Ok (with_chunks memory x.0, x.1)

-- devices before those of the disks that were read
abbrev pub joined : List (ℕ × Device) → Read (List Disk) → Result (List (ℕ × Device)) LoadFault
joined before read = read >>= λ x. Ok (before ++ devices_of (map started x.0))

-- 1 MiB of memory at 0x80000000, all 0, and no block device
abbrev pub built_in : Image
built_in = record { version = First; base = 2147483648; size = 1048576; chunks = []; disks = [] }
