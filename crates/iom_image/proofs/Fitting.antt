-- The numbers of an image fit into their bytes.
use Rattle.std.proofs.Common.{ℕ, ◌+◌, ◌≤◌, ◌<◌, ◌^◌, Bool, nat_lt, nat_le, List, [], ◌∷◌, ◌++◌, length, arith}
use Rattle.std.proofs.lemmas.Bool.{and_parts, ltb-true, leb-true}
use Rattle.iom_image.specs.Versions.{is_flagged}
use Rattle.iom_image.specs.Image.{Chunk, Disk, Image, AreChunks, AreDisks, IsImage, end_of}
use Rattle.iom_image.specs.Own.{AllFit, FewBytes}

few : (base size end : ℕ) (chunks : List Chunk) → size ≤ 2 ^ 26 → AreChunks base size end chunks → FewBytes chunks
few base size end [] small good = tt
few base size end (chunk ∷ chunks) small good =
    (omega (arith, small, good.0.above, good.0.below), few base size (end_of chunk) chunks small good.1)

-- chunks take no more bytes than lie behind `end`
room : (base size end : ℕ) (chunks : List Chunk) → AreChunks base size end chunks → base ≤ end → end ≤ base + size →
    length chunks + end ≤ base + size
room base size end [] good above below = omega (arith, below)
room base size end (chunk ∷ chunks) good above below =
    omega (arith, good.0.after, good.0.some, room base size (end_of chunk) chunks good.1 (omega (arith, good.0.above)) good.0.below)

count : (base size : ℕ) (chunks : List Chunk) → AreChunks base size 0 chunks → length chunks ≤ size
count base size [] good = omega arith
count base size (chunk ∷ chunks) good =
    omega (arith, good.0.above, good.0.some, room base size (end_of chunk) chunks good.1 (omega (arith, good.0.above)) good.0.below)

fit : (has_flags : Bool) (ids : List ℕ) (disks : List Disk) → AreDisks has_flags ids disks → AllFit disks
fit has_flags ids [] good = tt
fit has_flags ids (disk ∷ disks) good =
    let id = ltb-true disk.id (2 ^ 24) (and_parts (nat_lt disk.id (2 ^ 24)) _ good.0.id).0 in
    let sectors = leb-true disk.sectors 65536 (and_parts (nat_le 1 disk.sectors) (nat_le disk.sectors 65536) good.0.sectors).1 in
    let room = good.0.room in
    (record { id = omega (arith, id); sectors = omega (arith, sectors); bytes = omega (arith, room, sectors) }, fit has_flags (ids ++ disk.id ∷ []) disks good.1)

small : (image : Image) → IsImage image → image.size ≤ 2 ^ 26
small image good = let size = good.size in grind (arith, size)

pub few_bytes : (image : Image) → IsImage image → FewBytes image.chunks
few_bytes image good = few image.base image.size 0 image.chunks (small image good) good.chunks

pub few_chunks : (image : Image) → IsImage image → length image.chunks < 2 ^ 32
few_chunks image good = omega (arith, count image.base image.size image.chunks good.chunks, small image good)

pub all_fit : (image : Image) → IsImage image → AllFit image.disks
all_fit image good = fit (is_flagged image.version) [] image.disks good.disks
