-- Reading an image from its first byte on: each field is judged once it is whole, and the first check that fails names the
-- refusal.
use Rattle.std.specs.Prelude.{ℕ, zero, suc, ◌≡◌, ◌≢◌, ◌↔◌, ◌+◌, ◌*◌, ◌==◌, ◌&&◌, ◌++◌, Bool, true, false, List, [], ◌∷◌, length, take, drop, bytes_eq, codes, nat_lt, nat_le, Option, Some, None, Result, Ok, Err, IsOk, if◌then◌else◌}
use Rattle.iom_bits.specs.Bytes.{number_of_bytes}
use Rattle.iom_mem.specs.Lent.{is_lendable}
use Rattle.iom_mem.specs.Sizes.{is_paged, is_good_size, covers}
use Rattle.iom_messages.specs.declared.window.Window.{Window}
use Rattle.iom_image.specs.declared.fault.LoadFault.{LoadFault}
use Rattle.iom_image.specs.declared.fault.LoadFault.TheVariants.{BadMagic, BadCapabilities, Truncated, Trailing, BadRam, BadWindow, BadChunk, BadDevice, OutOfMemory}
use Rattle.iom_image.specs.declared.version.Version.{Version}
use Rattle.iom_image.specs.declared.version.Version.TheVariants.{First, Second, Third, Fourth}
use Rattle.iom_image.specs.Versions.{is_flagged, is_beside, is_third_word, third_features, are_words, features_in, has_window, window_of}
use Rattle.iom_image.specs.Image.{Chunk, Disk, Image, end_of, is_new_id, is_disk_size, IsImageOf, AreBytes}

-- a value, and the bytes after it
abbrev pub Read : Type 0 → Type 0
Read A = Result (A × List ℕ) LoadFault

infixl 10 ◌>>=◌
abbrev pub ◌>>=◌ : {A B : Type 0} → Result A LoadFault → (A → Result B LoadFault) → Result B LoadFault
(Ok x) >>= f = f x
(Err e) >>= f = Err e

-- what follows a check
abbrev pub checked : {A : Type 0} → Bool → LoadFault → Result A LoadFault → Result A LoadFault
checked holds fault next = if holds then next else Err fault

unfoldable pub part_at : ℕ → List ℕ → Read (List ℕ)
part_at count bytes = checked (nat_le count (length bytes)) Truncated (Ok (take count bytes, drop count bytes))

-- a number of so many bytes
unfoldable pub number_at : ℕ → List ℕ → Read ℕ
number_at count bytes = do
  part ← part_at count bytes
  Ok (number_of_bytes part.0, part.1)

-- what the word of an image of version 3 states; no other bit may be set
unfoldable pub third_at : List ℕ → Read Version
third_at bytes = do
  word ← number_at 8 bytes
  checked (is_third_word word.0) BadCapabilities (Ok (Third (third_features word.0), word.1))

-- the window whose base and size follow, where they do
unfoldable pub window_at : Bool → List ℕ → Read (Option Window)
window_at false bytes = Ok (None, bytes)
window_at true bytes = do
  base ← number_at 8 bytes
  size ← number_at 8 base.1
  checked (is_lendable base.0 size.0) BadWindow (Ok (Some (record { base = base.0; size = size.0 }), size.1))

-- what the words of an image of version 4 state; no other bit may be set
unfoldable pub fourth_at : List ℕ → Read Version
fourth_at bytes = do
  capabilities ← number_at 8 bytes
  choices ← number_at 8 capabilities.1
  checked (are_words capabilities.0 choices.0) BadCapabilities (do
    window ← window_at (has_window choices.0) choices.1
    Ok (Fourth (features_in capabilities.0 choices.0) window.0, window.1))

-- the version that eight bytes name, and the bytes after it
unfoldable pub version_of : List ℕ → List ℕ → Read Version
version_of magic bytes =
    if bytes_eq magic (codes "RVIOMMU1") then Ok (First, bytes)
    else if bytes_eq magic (codes "RVIOMMU2") then Ok (Second, bytes)
    else if bytes_eq magic (codes "RVIOMMU3") then third_at bytes
    else if bytes_eq magic (codes "RVIOMMU4") then fourth_at bytes
    else Err BadMagic

unfoldable pub version_at : List ℕ → Read Version
version_at bytes = do
  magic ← part_at 8 bytes
  version_of magic.0 magic.1

pub record Head : Type 0 where
  pub version : Version
  pub base : ℕ
  pub size : ℕ
  pub chunks : ℕ
  pub disks : ℕ

-- the head of an image of this version, from behind the version on
abbrev pub head_of : Version → List ℕ → Read Head
head_of version bytes = do
  base ← number_at 8 bytes
  size ← number_at 8 base.1
  chunks ← number_at 4 size.1
  disks ← number_at 4 chunks.1
  checked (is_paged base.0 && is_good_size base.0 size.0) BadRam (checked (is_beside (window_of version) base.0 size.0) BadWindow
      (checked (nat_le disks.0 8) BadDevice
      (Ok (record { version = version; base = base.0; size = size.0; chunks = chunks.0; disks = disks.0 }, disks.1))))

unfoldable pub head_at : List ℕ → Read Head
head_at bytes = do
  version ← version_at bytes
  head_of version.0 version.1

-- a chunk of this address with so many bytes, from the first of them on
abbrev pub chunk_of : ℕ → ℕ → List ℕ → Read Chunk
chunk_of addr len bytes = do
  text ← part_at len bytes
  Ok (record { addr = addr; bytes = text.0 }, text.1)

-- a chunk of a memory that is not below `end`
unfoldable pub chunk_at : ℕ → ℕ → ℕ → List ℕ → Read Chunk
chunk_at base size end bytes = do
  addr ← number_at 8 bytes
  checked (nat_le end addr.0) BadChunk (do
    len ← number_at 4 addr.1
    checked (nat_lt 0 len.0 && covers base (base + size) addr.0 len.0) BadChunk (chunk_of addr.0 len.0 len.1))

unfoldable pub chunks_at : ℕ → ℕ → ℕ → ℕ → List ℕ → Read (List Chunk)
chunks_at base size end zero bytes = Ok ([], bytes)
chunks_at base size end (suc count) bytes = do
  first ← chunk_at base size end bytes
  others ← chunks_at base size (end_of first.0) count first.1
  Ok (first.0 ∷ others.0, others.1)

-- whether a disk may only be read: bit 0 of its flags, where it has any; no other bit may be set
unfoldable pub flags_at : Bool → List ℕ → Read Bool
flags_at false bytes = Ok (false, bytes)
flags_at true bytes = do
  flags ← number_at 4 bytes
  checked (nat_le flags.0 1) BadDevice (Ok (flags.0 == 1, flags.1))

-- a disk of this id with so many sectors, from its flags on
abbrev pub disk_of : Bool → ℕ → ℕ → List ℕ → Read Disk
disk_of has_flags id sectors bytes = do
  read_only ← flags_at has_flags bytes
  len ← number_at 4 read_only.1
  checked (nat_le len.0 (sectors * 512)) BadDevice (do
    text ← part_at len.0 len.1
    Ok (record { id = id; sectors = sectors; read_only = read_only.0; bytes = text.0 }, text.1))

-- a disk whose id is not among `ids`
unfoldable pub disk_at : Bool → List ℕ → List ℕ → Read Disk
disk_at has_flags ids bytes = do
  id ← number_at 4 bytes
  checked (is_new_id ids id.0) BadDevice (do
    sectors ← number_at 4 id.1
    checked (is_disk_size sectors.0) BadDevice (disk_of has_flags id.0 sectors.0 sectors.1))

unfoldable pub disks_at : Bool → List ℕ → ℕ → List ℕ → Read (List Disk)
disks_at has_flags ids zero bytes = Ok ([], bytes)
disks_at has_flags ids (suc count) bytes = do
  first ← disk_at has_flags ids bytes
  others ← disks_at has_flags (ids ++ first.0.id ∷ []) count first.1
  Ok (first.0 ∷ others.0, others.1)

-- the image that all of the bytes are, or the refusal
unfoldable pub image_of : List ℕ → Result Image LoadFault
image_of bytes = do
  head ← head_at bytes
  chunks ← chunks_at head.0.base head.0.size 0 head.0.chunks head.1
  disks ← disks_at (is_flagged head.0.version) [] head.0.disks chunks.1
  checked (length disks.1 == 0) Trailing (Ok (record {
    version = head.0.version;
    base = head.0.base;
    size = head.0.size;
    chunks = chunks.0;
    disks = disks.0;
  }))

-- what a function returned, as `view` sees it, is what reading gives; it takes no memory
abbrev pub Reads : {X Y : Type 0} → (X → Y) → Result X LoadFault → Result Y LoadFault → Type 0
Reads view (Ok x) read = read ≡ Ok (view x)
Reads view (Err fault) read = (read ≡ Err fault) × (fault ≢ OutOfMemory)

-- a function read the front, and what `left` reads from there on is what reading gives; it takes no memory
abbrev pub Begins : {X Y : Type 0} → (X → Result Y LoadFault) → Result X LoadFault → Result Y LoadFault → Type 0
Begins left (Ok x) read = read ≡ left x
Begins left (Err fault) read = (read ≡ Err fault) × (fault ≢ OutOfMemory)

-- what a function returned, as `view` sees it, is what reading gives, unless it was refused memory
abbrev pub Gives : {X Y : Type 0} → (X → Y) → Result X LoadFault → Result Y LoadFault → Type 0
Gives view (Ok x) read = read ≡ Ok (view x)
Gives view (Err fault) read = fault ≢ OutOfMemory → read ≡ Err fault

-- the bytes that are left after a value
abbrev pub rest_of : {A : Type 0} → Read A → Result (List ℕ) LoadFault
rest_of read = read >>= λ x. Ok x.1

-- what a function that only judges returned is what reading gives; it takes no memory
abbrev pub Judges : {X Y : Type 0} → Result X LoadFault → Result Y LoadFault → Type 0
Judges (Ok x) read = IsOk read
Judges (Err fault) read = (read ≡ Err fault) × (fault ≢ OutOfMemory)

-- what is made of what was read
abbrev pub mapped : {A B : Type 0} → (A → B) → Result A LoadFault → Result B LoadFault
mapped f read = read >>= λ x. Ok (f x)

-- Reading bytes gives an image exactly where they are the bytes of that image.
abbrev pub ReadsImages : Type 0
ReadsImages = (bytes : List ℕ) (image : Image) → AreBytes bytes → (image_of bytes ≡ Ok image) ↔ IsImageOf image bytes
