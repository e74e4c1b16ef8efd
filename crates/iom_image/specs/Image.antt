-- Images: which bytes are an image, and of what.
use Rattle.std.specs.Prelude.{ℕ, ◌≡◌, ◌+◌, ◌*◌, ◌^◌, ◌<◌, ◌≤◌, ◌&&◌, ◌++◌, Bool, true, false, not, List, [], ◌∷◌, length, map, nat_lt, nat_le}
use Rattle.iom_bits.specs.Bits.{flag}
use Rattle.iom_bits.specs.Bytes.{bytes_of_number}
use Rattle.iom_mem.specs.Sizes.{is_paged, is_good_size}
use Rattle.iom_core.specs.State.{is_id_among}
use Rattle.iom_image.specs.declared.version.Version.{Version}
use Rattle.iom_image.specs.Versions.{is_flagged, is_beside, window_of, version_bytes, CanState}

-- bytes that stand in memory at the start, from a physical address on
pub record Chunk : Type 0 where
  pub addr : ℕ
  pub bytes : List ℕ

-- a block device: its device id, how many sectors of 512 bytes its disk has, whether the disk may only be read, and its first bytes
pub record Disk : Type 0 where
  pub id : ℕ
  pub sectors : ℕ
  pub read_only : Bool
  pub bytes : List ℕ

pub record Image : Type 0 where
  pub version : Version
  pub base : ℕ
  pub size : ℕ
  pub chunks : List Chunk
  pub disks : List Disk

-- the physical address after a chunk
abbrev pub end_of : Chunk → ℕ
end_of chunk = chunk.addr + length chunk.bytes

-- whether an id of 24 bits is not among others; whether a disk may have so many sectors
abbrev pub is_new_id : List ℕ → ℕ → Bool
is_new_id ids id = nat_lt id (2 ^ 24) && not (is_id_among ids id)

abbrev pub is_disk_size : ℕ → Bool
is_disk_size sectors = nat_le 1 sectors && nat_le sectors 65536

-- whether a disk may follow these
abbrev pub is_next_disk : List Disk → Disk → Bool
is_next_disk disks disk =
    nat_lt (length disks) 8 && (is_new_id (map (λ other. other.id) disks) disk.id && (is_disk_size disk.sectors && nat_le (length disk.bytes) (disk.sectors * 512)))

-- a chunk of a memory that is not below `end`: at least one byte, all of them in memory
pub record IsChunk (base size end : ℕ) (chunk : Chunk) : Type 0 where
  pub after : end ≤ chunk.addr
  pub some : 0 < length chunk.bytes
  pub above : base ≤ chunk.addr
  pub below : end_of chunk ≤ base + size

-- chunks of a memory, each not below the end of the one before, the first not below `end`
abbrev pub AreChunks : ℕ → ℕ → ℕ → List Chunk → Type 0
AreChunks base size end [] = Unit {0}
AreChunks base size end (chunk ∷ chunks) = IsChunk base size end chunk × AreChunks base size (end_of chunk) chunks

-- a disk whose id is not among `ids`, with room for its first bytes, and writable where it has no flags
pub record IsDisk (has_flags : Bool) (ids : List ℕ) (disk : Disk) : Type 0 where
  pub id : is_new_id ids disk.id ≡ true
  pub sectors : is_disk_size disk.sectors ≡ true
  pub room : length disk.bytes ≤ disk.sectors * 512
  pub writable : has_flags ≡ false → disk.read_only ≡ false

-- disks of which no two have the same id, nor one that is among `ids`
abbrev pub AreDisks : Bool → List ℕ → List Disk → Type 0
AreDisks has_flags ids [] = Unit {0}
AreDisks has_flags ids (disk ∷ disks) = IsDisk has_flags ids disk × AreDisks has_flags (ids ++ disk.id ∷ []) disks

-- what has an image
pub record IsImage (image : Image) : Type 0 where
  pub base : is_paged image.base ≡ true
  pub size : is_good_size image.base image.size ≡ true
  pub chunks : AreChunks image.base image.size 0 image.chunks
  pub few : length image.disks ≤ 8
  pub disks : AreDisks (is_flagged image.version) [] image.disks
  pub stated : CanState image.version
  pub beside : is_beside (window_of image.version) image.base image.size ≡ true

-- its bytes
abbrev pub chunk_bytes : Chunk → List ℕ
chunk_bytes chunk = bytes_of_number 8 chunk.addr ++ (bytes_of_number 4 (length chunk.bytes) ++ chunk.bytes)

abbrev pub chunks_bytes : List Chunk → List ℕ
chunks_bytes [] = []
chunks_bytes (chunk ∷ chunks) = chunk_bytes chunk ++ chunks_bytes chunks

-- bit 0 of the flags: the disk may only be read; no other bit is set
abbrev pub flags_bytes : Bool → Bool → List ℕ
flags_bytes false read_only = []
flags_bytes true read_only = bytes_of_number 4 (flag read_only)

abbrev pub disk_bytes : Bool → Disk → List ℕ
disk_bytes has_flags disk =
    bytes_of_number 4 disk.id ++ (bytes_of_number 4 disk.sectors ++ (flags_bytes has_flags disk.read_only
    ++ (bytes_of_number 4 (length disk.bytes) ++ disk.bytes)))

abbrev pub disks_bytes : Bool → List Disk → List ℕ
disks_bytes has_flags [] = []
disks_bytes has_flags (disk ∷ disks) = disk_bytes has_flags disk ++ disks_bytes has_flags disks

abbrev pub head_bytes : Version → ℕ → ℕ → ℕ → ℕ → List ℕ
head_bytes version base size chunks disks =
    version_bytes version ++ (bytes_of_number 8 base ++ (bytes_of_number 8 size ++ (bytes_of_number 4 chunks ++ bytes_of_number 4 disks)))

unfoldable pub image_bytes : Image → List ℕ
image_bytes image =
    head_bytes image.version image.base image.size (length image.chunks) (length image.disks)
    ++ (chunks_bytes image.chunks ++ disks_bytes (is_flagged image.version) image.disks)

-- these bytes are an image, of this memory with these chunks and these disks
pub record IsImageOf (image : Image) (bytes : List ℕ) : Type 0 where
  pub good : IsImage image
  pub are : bytes ≡ image_bytes image

-- numbers of eight bits
abbrev pub AreBytes : List ℕ → Type 0
AreBytes [] = Unit {0}
AreBytes (byte ∷ bytes) = (byte < 256) × AreBytes bytes
