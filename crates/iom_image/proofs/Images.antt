-- The bytes of an image are read as that image.
use Rattle.std.proofs.Common.{◌≡◌, ℕ, zero, suc, ◌+◌, ◌*◌, ◌/◌, ◌^◌, ◌≤◌, ◌<◌, Bool, true, false, Option, Some, None, List, [], ◌∷◌, ◌++◌, length, codes, Ok, refl, sym, ap, ◌∙◌, append_assoc, append-nil, length-append, arith}
use Rattle.std.proofs.lemmas.Bool.{and_parts, le-leb, lt-ltb}
use Rattle.std.proofs.lemmas.List.{take_at, drop_at}
use Rattle.iom_bits.specs.Bytes.{number_of_bytes, bytes_of_number}
use Rattle.iom_bits.proofs.Bytes.{length_of_number}
use Rattle.iom_bits.specs.Features.{Features, is_offer}
use Rattle.iom_mem.specs.Lent.{is_lendable}
use Rattle.iom_mem.specs.Sizes.{is_paged, is_good_size}
use Rattle.iom_messages.specs.declared.window.Window.{Window}
use Rattle.iom_regs.specs.Offers.{capabilities_of}
use Rattle.iom_image.specs.declared.version.Version.{Version}
use Rattle.iom_image.specs.declared.version.Version.TheVariants.{First, Second, Third, Fourth}
use Rattle.iom_image.specs.Versions.{CanState, has_window, is_beside, is_flagged, is_third, is_window, third_word, version_bytes, window_bytes, window_of}
use Rattle.iom_image.specs.Image.{Chunk, Disk, Image, IsChunk, AreChunks, IsDisk, AreDisks, IsImage, end_of, chunk_bytes, chunks_bytes, flags_bytes, disk_bytes, disks_bytes, head_bytes, image_bytes}
use Rattle.iom_image.specs.Reading.{part_at, number_at, third_at, window_at, fourth_at, version_of, version_at, head_at, chunk_at, chunks_at, flags_at, disk_at, disks_at, image_of}
use Rattle.iom_image.specs.Own.{Fits, AllFit, FewBytes}
use Rattle.iom_image.proofs.Stated.{capabilities_fit, choices_word, features_back, no_window_told, third_back, third_fits, third_states, window_told, word_of_choices_fits, words_state}
use Rattle.iom_image.proofs.Fitting.{few_bytes, few_chunks, all_fit}

-- how many numbers so many bytes can be
abbrev room : ℕ → ℕ
room zero = 1
room (suc count) = 256 * room count

pub number_back : (count n : ℕ) → n < room count → number_of_bytes (bytes_of_number count n) ≡ n
number_back zero n lt = omega (arith, lt)
number_back (suc count) n lt =
    let others : number_of_bytes (bytes_of_number count (n / 256)) ≡ n / 256 = number_back count (n / 256) (omega (arith, lt)) in
    omega (arith, others)

part_again : (count : ℕ) (text rest : List ℕ) → length text ≡ count → part_at count (text ++ rest) ≡ Ok (text, rest)
unfolding part_at
part_again count text rest len =
    rw (le-leb count (length (text ++ rest)) (omega (arith, len, length-append text rest)), take_at text rest count len, drop_at text rest count len) refl

number_again : (count n : ℕ) (rest : List ℕ) → n < room count → number_at count (bytes_of_number count n ++ rest) ≡ Ok (n, rest)
unfolding number_at
number_again count n rest lt = rw (part_again count (bytes_of_number count n) rest (length_of_number count n), number_back count n lt) refl

assoc3 : (a b c d : List ℕ) → (a ++ (b ++ c)) ++ d ≡ a ++ (b ++ (c ++ d))
assoc3 a b c d = append_assoc a (b ++ c) d ∙ ap (λ x. a ++ x) (append_assoc b c d)

assoc4 : (a b c d e : List ℕ) → (a ++ (b ++ (c ++ d))) ++ e ≡ a ++ (b ++ (c ++ (d ++ e)))
assoc4 a b c d e = append_assoc a (b ++ (c ++ d)) e ∙ ap (λ x. a ++ x) (assoc3 b c d e)

chunk_again : (base size end : ℕ) (chunk : Chunk) (rest : List ℕ) → IsChunk base size end chunk → chunk.addr < 2 ^ 64 → length chunk.bytes < 2 ^ 32 →
    chunk_at base size end (chunk_bytes chunk ++ rest) ≡ Ok (chunk, rest)
unfolding chunk_at
chunk_again base size end chunk rest good addr len =
    rw (
      assoc3 (bytes_of_number 8 chunk.addr) (bytes_of_number 4 (length chunk.bytes)) chunk.bytes rest,
      number_again 8 chunk.addr (bytes_of_number 4 (length chunk.bytes) ++ (chunk.bytes ++ rest)) addr,
      le-leb end chunk.addr good.after,
      number_again 4 (length chunk.bytes) (chunk.bytes ++ rest) len,
      lt-ltb 0 (length chunk.bytes) good.some,
      le-leb base chunk.addr good.above,
      le-leb (end_of chunk) (base + size) good.below,
      part_again (length chunk.bytes) chunk.bytes rest refl,
    ) refl

chunks_again : (base size end : ℕ) (chunks : List Chunk) (rest : List ℕ) → base + size ≤ 2 ^ 56 → AreChunks base size end chunks → FewBytes chunks →
    chunks_at base size end (length chunks) (chunks_bytes chunks ++ rest) ≡ Ok (chunks, rest)
unfolding chunks_at
chunks_again base size end [] rest far good few = refl
chunks_again base size end (chunk ∷ chunks) rest far good few =
    rw (
      append_assoc (chunk_bytes chunk) (chunks_bytes chunks) rest,
      chunk_again base size end chunk (chunks_bytes chunks ++ rest) good.0 (omega (arith, good.0.below, far)) few.0,
      chunks_again base size (end_of chunk) chunks rest far good.1 few.1,
    ) refl

assoc5 : (a b c d e f : List ℕ) → (a ++ (b ++ (c ++ (d ++ e)))) ++ f ≡ a ++ (b ++ (c ++ (d ++ (e ++ f))))
assoc5 a b c d e f = append_assoc a (b ++ (c ++ (d ++ e))) f ∙ ap (λ x. a ++ x) (assoc4 b c d e f)

flags_again : (has_flags read_only : Bool) (rest : List ℕ) → (has_flags ≡ false → read_only ≡ false) →
    flags_at has_flags (flags_bytes has_flags read_only ++ rest) ≡ Ok (read_only, rest)
unfolding flags_at
flags_again false read_only rest writable = rw (writable refl) refl
flags_again true false rest writable = rw (number_again 4 0 rest (omega arith)) refl
flags_again true true rest writable = rw (number_again 4 1 rest (omega arith)) refl

disk_again : (has_flags : Bool) (ids : List ℕ) (disk : Disk) (rest : List ℕ) → IsDisk has_flags ids disk → Fits disk →
    disk_at has_flags ids (disk_bytes has_flags disk ++ rest) ≡ Ok (disk, rest)
unfolding disk_at
disk_again has_flags ids disk rest good fits =
    rw (
      assoc5 (bytes_of_number 4 disk.id) (bytes_of_number 4 disk.sectors) (flags_bytes has_flags disk.read_only) (bytes_of_number 4 (length disk.bytes)) disk.bytes rest,
      number_again 4 disk.id (bytes_of_number 4 disk.sectors ++ (flags_bytes has_flags disk.read_only ++ (bytes_of_number 4 (length disk.bytes) ++ (disk.bytes ++ rest)))) fits.id,
      good.id,
      number_again 4 disk.sectors (flags_bytes has_flags disk.read_only ++ (bytes_of_number 4 (length disk.bytes) ++ (disk.bytes ++ rest))) fits.sectors,
      good.sectors,
      flags_again has_flags disk.read_only (bytes_of_number 4 (length disk.bytes) ++ (disk.bytes ++ rest)) good.writable,
      number_again 4 (length disk.bytes) (disk.bytes ++ rest) fits.bytes,
      le-leb (length disk.bytes) (disk.sectors * 512) good.room,
      part_again (length disk.bytes) disk.bytes rest refl,
    ) refl

disks_again : (has_flags : Bool) (ids : List ℕ) (disks : List Disk) (rest : List ℕ) → AreDisks has_flags ids disks → AllFit disks →
    disks_at has_flags ids (length disks) (disks_bytes has_flags disks ++ rest) ≡ Ok (disks, rest)
unfolding disks_at
disks_again has_flags ids [] rest good fits = refl
disks_again has_flags ids (disk ∷ disks) rest good fits =
    rw (
      append_assoc (disk_bytes has_flags disk) (disks_bytes has_flags disks) rest,
      disk_again has_flags ids disk (disks_bytes has_flags disks ++ rest) good.0 fits.0,
      disks_again has_flags (ids ++ disk.id ∷ []) disks rest good.1 fits.1,
    ) refl

lendable_end : (base size : ℕ) → is_lendable base size ≡ true → base + size ≤ 2 ^ 56
lendable_end base size good = grind (arith, good)

window_again : (features : Features) (window : Option Window) (rest : List ℕ) → is_offer features ≡ true → is_window window ≡ true →
    window_at (has_window (choices_word features window)) (window_bytes window ++ rest) ≡ Ok (window, rest)
unfolding window_at
window_again features None rest offer good = rw (no_window_told features offer) refl
window_again features (Some window) rest offer good =
    let base = bytes_of_number 8 window.base in
    let size = bytes_of_number 8 window.size in
    let far = lendable_end window.base window.size good in
    rw (
      window_told features window,
      append_assoc base size rest,
      number_again 8 window.base (size ++ rest) (omega (arith, far)),
      number_again 8 window.size rest (omega (arith, far)),
      good,
    ) refl

version_again : (version : Version) (rest : List ℕ) → CanState version → version_at (version_bytes version ++ rest) ≡ Ok (version, rest)
unfolding version_at version_of third_at fourth_at
version_again First rest stated = rw (part_again 8 (codes "RVIOMMU1") rest refl) refl
version_again Second rest stated = rw (part_again 8 (codes "RVIOMMU2") rest refl) refl
version_again (Third features) rest stated =
    let word = bytes_of_number 8 (third_word features) in
    let is = and_parts (is_third features) (is_offer features) stated in
    rw (
      append_assoc (codes "RVIOMMU3") word rest,
      part_again 8 (codes "RVIOMMU3") (word ++ rest) refl,
      number_again 8 (third_word features) rest (third_fits features),
      third_states features is.0 is.1,
      third_back features is.0,
    ) refl
version_again (Fourth features window) rest stated =
    let capabilities = bytes_of_number 8 (capabilities_of features) in
    let choices = bytes_of_number 8 (choices_word features window) in
    let others = window_bytes window in
    rw (
      assoc4 (codes "RVIOMMU4") capabilities choices others rest,
      part_again 8 (codes "RVIOMMU4") (capabilities ++ (choices ++ (others ++ rest))) refl,
      number_again 8 (capabilities_of features) (choices ++ (others ++ rest)) (capabilities_fit features),
      number_again 8 (choices_word features window) (others ++ rest) (omega (arith, word_of_choices_fits features window stated.0)),
      words_state features window stated.0,
      window_again features window rest stated.0 stated.1,
      features_back features window stated.0,
    ) refl

head_again : (version : Version) (base size chunks disks : ℕ) (rest : List ℕ) → base < 2 ^ 64 → size < 2 ^ 64 → chunks < 2 ^ 32 → disks ≤ 8 →
    is_paged base ≡ true → is_good_size base size ≡ true → CanState version → is_beside (window_of version) base size ≡ true →
    head_at (head_bytes version base size chunks disks ++ rest)
    ≡ Ok (record { version = version; base = base; size = size; chunks = chunks; disks = disks }, rest)
unfolding head_at
head_again version base size chunks disks rest base_fits size_fits chunks_fit few paged good stated beside =
    rw (
      append_assoc (version_bytes version) (bytes_of_number 8 base ++ (bytes_of_number 8 size ++ (bytes_of_number 4 chunks ++ bytes_of_number 4 disks))) rest,
      version_again version ((bytes_of_number 8 base ++ (bytes_of_number 8 size ++ (bytes_of_number 4 chunks ++ bytes_of_number 4 disks))) ++ rest) stated,
      assoc4 (bytes_of_number 8 base) (bytes_of_number 8 size) (bytes_of_number 4 chunks) (bytes_of_number 4 disks) rest,
      number_again 8 base (bytes_of_number 8 size ++ (bytes_of_number 4 chunks ++ (bytes_of_number 4 disks ++ rest))) base_fits,
      number_again 8 size (bytes_of_number 4 chunks ++ (bytes_of_number 4 disks ++ rest)) size_fits,
      number_again 4 chunks (bytes_of_number 4 disks ++ rest) chunks_fit,
      number_again 4 disks rest (omega (arith, few)),
      paged,
      good,
      beside,
      le-leb disks 8 few,
    ) refl

-- where memory ends
pub far_end : (image : Image) → IsImage image → image.base + image.size ≤ 2 ^ 56
far_end image good = let size = good.size in grind (arith, size)

pub read_again : (image : Image) → IsImage image → image_of (image_bytes image) ≡ Ok image
unfolding image_of image_bytes
read_again image good =
    let far = far_end image good in
    let last : disks_at (is_flagged image.version) [] (length image.disks) (disks_bytes (is_flagged image.version) image.disks) ≡ Ok (image.disks, []) =
    ap (disks_at (is_flagged image.version) [] (length image.disks)) (sym (append-nil (disks_bytes (is_flagged image.version) image.disks)))
    ∙ disks_again (is_flagged image.version) [] image.disks [] good.disks (all_fit image good) in
    rw (
      head_again image.version image.base image.size (length image.chunks) (length image.disks)
          (chunks_bytes image.chunks ++ disks_bytes (is_flagged image.version) image.disks)
          (omega (arith, far)) (omega (arith, far)) (few_chunks image good) good.few good.base good.size good.stated good.beside,
      chunks_again image.base image.size 0 image.chunks (disks_bytes (is_flagged image.version) image.disks) far good.chunks (few_bytes image good),
      last,
    ) refl
