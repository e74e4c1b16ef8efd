-- Bytes behind bytes.
use Rattle.std.proofs.Common.{◌≡◌, ◌<◌, ℕ, Bool, length, map, drop, get_or, arith, List, [], ◌∷◌, ◌++◌, ap, sym, ◌∙◌, append_assoc}
use Rattle.iom_image.specs.Versions.{is_flagged}
use Rattle.iom_image.specs.Image.{Chunk, Image, chunk_bytes, chunks_bytes, disk_bytes, disks_bytes, head_bytes, image_bytes}
use Rattle.iom_image.specs.declared.own.OwnDisk.{OwnDisk}
use Rattle.iom_image.specs.Own.{disk_seen}

pub two : (old a b one both : List ℕ) → one ≡ old ++ a → both ≡ one ++ b → both ≡ old ++ (a ++ b)
two old a b one both first second = second ∙ rw first (append_assoc old a b)

pub three : (old a b c one both all : List ℕ) → one ≡ old ++ a → both ≡ one ++ b → all ≡ both ++ c → all ≡ old ++ (a ++ (b ++ c))
three old a b c one both all first second third = two old a (b ++ c) one all first (two one b c both all second third)

pub four : (old a b c d one both more all : List ℕ) → one ≡ old ++ a → both ≡ one ++ b → more ≡ both ++ c → all ≡ more ++ d →
    all ≡ old ++ (a ++ (b ++ (c ++ d)))
four old a b c d one both more all first second third fourth = two old a (b ++ (c ++ d)) one all first (three one b c d both more all second third fourth)

pub five : (old a b c d e one both more last all : List ℕ) → one ≡ old ++ a → both ≡ one ++ b → more ≡ both ++ c → last ≡ more ++ d →
    all ≡ last ++ e → all ≡ old ++ (a ++ (b ++ (c ++ (d ++ e))))
five old a b c d e one both more last all first second third fourth fifth =
    two old a (b ++ (c ++ (d ++ e))) one all first (four one b c d e both more last all second third fourth fifth)

pub next_chunk : (out new all : List ℕ) (first : Chunk) (left others : List Chunk) → left ≡ first ∷ others → new ≡ out ++ chunk_bytes first →
    out ++ chunks_bytes left ≡ all → new ++ chunks_bytes others ≡ all
next_chunk out new all first left others is pushed so_far =
    rw pushed (append_assoc out (chunk_bytes first) (chunks_bytes others)) ∙ ap (λ left. out ++ chunks_bytes left) (sym is) ∙ so_far

pub next_disk : (has_flags : Bool) (old one both : List ℕ) (disks : List OwnDisk) (first : OwnDisk) → 0 < length disks → first ≡ get_or disks 0 first →
    one ≡ old ++ disk_bytes has_flags (disk_seen first) → both ≡ one ++ disks_bytes has_flags (map disk_seen (drop 1 disks)) →
    both ≡ old ++ disks_bytes has_flags (map disk_seen disks)
next_disk has_flags old one both [] first some is pushed others = absurd (omega (arith, some))
next_disk has_flags old one both (disk ∷ disks) first some is pushed others =
    two old (disk_bytes has_flags (disk_seen disk)) (disks_bytes has_flags (map disk_seen disks)) one both (pushed ∙ ap (λ disk. old ++ disk_bytes has_flags (disk_seen disk)) is) others

pub written : (image : Image) (chunks disks : ℕ) (old one both all : List ℕ) → old ≡ [] → chunks ≡ length image.chunks → disks ≡ length image.disks →
    one ≡ old ++ head_bytes image.version image.base image.size chunks disks → both ≡ one ++ chunks_bytes image.chunks →
    all ≡ both ++ disks_bytes (is_flagged image.version) image.disks → all ≡ image_bytes image
unfolding image_bytes
written image chunks disks old one both all none few some first second third =
    let begun : one ≡ head_bytes image.version image.base image.size (length image.chunks) (length image.disks) = rw (← few, ← some) (first ∙ ap (λ old. old ++ head_bytes image.version image.base image.size chunks disks) none) in
    three [] (head_bytes image.version image.base image.size (length image.chunks) (length image.disks)) (chunks_bytes image.chunks) (disks_bytes (is_flagged image.version) image.disks) one both all begun second third
