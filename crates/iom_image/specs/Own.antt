-- Images as they are kept while they are made.
use Rattle.std.specs.Prelude.{ℕ, ◌<◌, ◌^◌, List, [], ◌∷◌, length, map}
use Rattle.std.specs.Global.{Vec}
use Rattle.iom_image.specs.declared.own.OwnDisk.{OwnDisk}
use Rattle.iom_image.specs.declared.own.OwnImage.{OwnImage}
use Rattle.iom_image.specs.Image.{Chunk, Disk, Image}

abbrev pub chunk_seen : ℕ × Vec ℕ → Chunk
chunk_seen entry = record { addr = entry.0; bytes = entry.1.items }

abbrev pub disk_seen : OwnDisk → Disk
disk_seen disk = record { id = disk.id; sectors = disk.sectors; read_only = disk.read_only; bytes = disk.bytes.items }

abbrev pub image_seen : OwnImage → Image
image_seen image = record {
  version = image.version;
  base = image.base;
  size = image.size;
  chunks = map chunk_seen image.chunks.entries;
  disks = map disk_seen image.disks.items;
}

-- numbers of four bytes are enough
pub record Fits (disk : Disk) : Type 0 where
  pub id : disk.id < 2 ^ 32
  pub sectors : disk.sectors < 2 ^ 32
  pub bytes : length disk.bytes < 2 ^ 32

abbrev pub AllFit : List Disk → Type 0
AllFit [] = Unit {0}
AllFit (disk ∷ disks) = Fits disk × AllFit disks

abbrev pub FewBytes : List Chunk → Type 0
FewBytes [] = Unit {0}
FewBytes (chunk ∷ chunks) = (length chunk.bytes < 2 ^ 32) × FewBytes chunks
