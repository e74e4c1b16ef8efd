-- An image that is written again, in version 4.
use Rattle.std.proofs.Common.{◌≡◌, ℕ, zero, suc, ◌-◌, ◌+◌, ◌≤◌, ◌<◌, ◌==◌, Bool, true, Option, List, [], ◌∷◌, ◌++◌, length, Result, Ok, Err, refl, sym, ap, ◌∙◌, append_assoc, append-nil, arith}
use Rattle.std.specs.Prelude.{IsOk}
use Rattle.iom_image.specs.declared.fault.LoadFault.{LoadFault}
use Rattle.iom_bits.specs.Features.{Features}
use Rattle.iom_messages.specs.declared.window.Window.{Window}
use Rattle.iom_image.specs.declared.version.Version.{Version}
use Rattle.iom_image.specs.declared.version.Version.TheVariants.{Fourth}
use Rattle.iom_image.specs.Versions.{is_flagged, features_of, window_of}
use Rattle.iom_image.specs.Image.{Chunk, Disk, Image, IsImage, AreBytes, end_of, chunk_bytes, chunks_bytes, disk_bytes, disks_bytes, head_bytes, image_bytes}
use Rattle.iom_image.specs.Loading.{opening_of, state_from}
use Rattle.iom_image.specs.Reading.{◌>>=◌, Read, Head, mapped, head_at, chunk_at, chunks_at, disk_at, disks_at, image_of}
use Rattle.iom_image.specs.Upgrading.{upgraded, upgraded_bytes, IsUpgraded, chunks_behind, disks_behind}
use Rattle.iom_image.proofs.Filling.{ends, ended}
use Rattle.iom_image.proofs.Found.{bind_ok, read_as, read_is}
use Rattle.iom_image.proofs.Images.{read_again}
use Rattle.iom_image.proofs.Flags.{with_flags}
use Rattle.iom_image.proofs.Oks.{ok_is}
use Rattle.iom_image.proofs.Stated.{can_have, can_offer}

abbrev good : {A : Type 0} → A → Result A LoadFault
good x = Ok x

-- chunks
first_chunk : (before : List ℕ) (c : Chunk) (read : Read (List Chunk)) →
    chunks_behind before (read >>= λ x. Ok (c ∷ x.0, x.1)) ≡ chunks_behind (before ++ chunk_bytes c) read
first_chunk before c (Ok x) = ap (λ (bytes : List ℕ). good (bytes, x.1)) (sym (append_assoc before (chunk_bytes c) (chunks_bytes x.0)))
first_chunk before c (Err fault) = refl

pub chunks_go_on : (before : List ℕ) (base size end count i : ℕ) (bytes after : List ℕ) (c : Chunk) (total : Result (List ℕ × List ℕ) LoadFault) →
    i < count → chunk_at base size end bytes ≡ Ok (c, after) → chunks_behind before (chunks_at base size end (count - i) bytes) ≡ total →
    chunks_behind (before ++ chunk_bytes c) (chunks_at base size (end_of c) (count - (i + 1)) after) ≡ total
unfolding chunks_at
chunks_go_on before base size end count i bytes after c total lt h so_far =
    let k : count - i ≡ suc (count - (i + 1)) = omega arith in
    let one : chunks_behind before (chunks_at base size end (count - i) bytes)
    ≡ chunks_behind (before ++ chunk_bytes c) (chunks_at base size (end_of c) (count - (i + 1)) after) =
    rw (k, h) (first_chunk before c (chunks_at base size (end_of c) (count - (i + 1)) after)) in
    sym one ∙ so_far

pub chunks_fail : (before : List ℕ) (base size end count i : ℕ) (bytes : List ℕ) (fault : LoadFault) (total : Result (List ℕ × List ℕ) LoadFault) →
    i < count → chunk_at base size end bytes ≡ Err fault → chunks_behind before (chunks_at base size end (count - i) bytes) ≡ total →
    total ≡ Err fault
unfolding chunks_at
chunks_fail before base size end count i bytes fault total lt h so_far =
    let k : count - i ≡ suc (count - (i + 1)) = omega arith in
    let one : chunks_behind before (chunks_at base size end (count - i) bytes) ≡ Err fault = rw (k, h) refl in
    sym so_far ∙ one

pub chunks_done : (before : List ℕ) (base size end count i : ℕ) (bytes : List ℕ) (total : Result (List ℕ × List ℕ) LoadFault) → count ≤ i →
    chunks_behind before (chunks_at base size end (count - i) bytes) ≡ total → total ≡ Ok (before, bytes)
unfolding chunks_at
chunks_done before base size end count i bytes total le so_far =
    let k : count - i ≡ 0 = omega arith in
    let one : chunks_behind before (chunks_at base size end (count - i) bytes) ≡ Ok (before, bytes) =
    rw k (ap (λ (before : List ℕ). good (before, bytes)) (append-nil before)) in
    sym so_far ∙ one

-- disks
first_disk : (before : List ℕ) (d : Disk) (read : Read (List Disk)) →
    disks_behind before (read >>= λ x. Ok (d ∷ x.0, x.1)) ≡ disks_behind (before ++ disk_bytes true d) read
first_disk before d (Ok x) = ap good (sym (append_assoc before (disk_bytes true d) (disks_bytes true x.0)))
first_disk before d (Err fault) = refl

pub disks_go_on : (before : List ℕ) (has_flags : Bool) (ids : List ℕ) (count i : ℕ) (bytes after : List ℕ) (d : Disk) (total : Result (List ℕ) LoadFault) →
    i < count → disk_at has_flags ids bytes ≡ Ok (d, after) → disks_behind before (disks_at has_flags ids (count - i) bytes) ≡ total →
    disks_behind (before ++ disk_bytes true d) (disks_at has_flags (ids ++ d.id ∷ []) (count - (i + 1)) after) ≡ total
unfolding disks_at
disks_go_on before has_flags ids count i bytes after d total lt h so_far =
    let k : count - i ≡ suc (count - (i + 1)) = omega arith in
    let one : disks_behind before (disks_at has_flags ids (count - i) bytes)
    ≡ disks_behind (before ++ disk_bytes true d) (disks_at has_flags (ids ++ d.id ∷ []) (count - (i + 1)) after) =
    rw (k, h) (first_disk before d (disks_at has_flags (ids ++ d.id ∷ []) (count - (i + 1)) after)) in
    sym one ∙ so_far

pub disks_fail : (before : List ℕ) (has_flags : Bool) (ids : List ℕ) (count i : ℕ) (bytes : List ℕ) (fault : LoadFault) (total : Result (List ℕ) LoadFault) →
    i < count → disk_at has_flags ids bytes ≡ Err fault → disks_behind before (disks_at has_flags ids (count - i) bytes) ≡ total → total ≡ Err fault
unfolding disks_at
disks_fail before has_flags ids count i bytes fault total lt h so_far =
    let k : count - i ≡ suc (count - (i + 1)) = omega arith in
    let one : disks_behind before (disks_at has_flags ids (count - i) bytes) ≡ Err fault = rw (k, h) refl in
    sym so_far ∙ one

pub disks_done : (before : List ℕ) (has_flags : Bool) (ids : List ℕ) (count i : ℕ) (bytes : List ℕ) (total : Result (List ℕ) LoadFault) → count ≤ i →
    disks_behind before (disks_at has_flags ids (count - i) bytes) ≡ total → total ≡ Ok before
unfolding disks_at
disks_done before has_flags ids count i bytes total le so_far =
    let k : count - i ≡ 0 = omega arith in
    let one : disks_behind before (disks_at has_flags ids (count - i) bytes) ≡ Ok before = rw k (ap good (append-nil before)) in
    sym so_far ∙ one

-- as many are read as the head says
chunks_counted : (base size end count : ℕ) (bytes : List ℕ) (x : List Chunk × List ℕ) → chunks_at base size end count bytes ≡ Ok x → length x.0 ≡ count
unfolding chunks_at
chunks_counted base size end zero bytes x is = ap (λ (x : List Chunk × List ℕ). length x.0) (sym (ok_is ([], bytes) x is))
chunks_counted base size end (suc count) bytes x is =
    let a = bind_ok (chunk_at base size end bytes) (λ first. chunks_at base size (end_of first.0) count first.1 >>= λ others. Ok (first.0 ∷ others.0, others.1)) x is in
    let b = bind_ok (chunks_at base size (end_of a.0.0) count a.0.1) (λ others. Ok (a.0.0 ∷ others.0, others.1)) x a.2 in
    ap (λ (x : List Chunk × List ℕ). length x.0) (sym (ok_is (a.0.0 ∷ b.0.0, b.0.1) x b.2))
    ∙ ap suc (chunks_counted base size (end_of a.0.0) count a.0.1 b.0 b.1)

disks_counted : (has_flags : Bool) (ids : List ℕ) (count : ℕ) (bytes : List ℕ) (x : List Disk × List ℕ) → disks_at has_flags ids count bytes ≡ Ok x → length x.0 ≡ count
unfolding disks_at
disks_counted has_flags ids zero bytes x is = ap (λ (x : List Disk × List ℕ). length x.0) (sym (ok_is ([], bytes) x is))
disks_counted has_flags ids (suc count) bytes x is =
    let a = bind_ok (disk_at has_flags ids bytes) (λ first. disks_at has_flags (ids ++ first.0.id ∷ []) count first.1 >>= λ others. Ok (first.0 ∷ others.0, others.1)) x is in
    let b = bind_ok (disks_at has_flags (ids ++ a.0.0.id ∷ []) count a.0.1) (λ others. Ok (a.0.0 ∷ others.0, others.1)) x a.2 in
    ap (λ (x : List Disk × List ℕ). length x.0) (sym (ok_is (a.0.0 ∷ b.0.0, b.0.1) x b.2))
    ∙ ap suc (disks_counted has_flags (ids ++ a.0.0.id ∷ []) count a.0.1 b.0 b.1)

-- what was written are the bytes of the same image with flags
abbrev first_bytes : Head → List ℕ
first_bytes head = head_bytes (Fourth (features_of head.version) (window_of head.version)) head.base head.size head.chunks head.disks

disks_rewritten : (head : Head) (chunks : List Chunk) (read : Read (List Disk)) (one all : List ℕ) → length chunks ≡ head.chunks →
    ((x : List Disk × List ℕ) → read ≡ Ok x → length x.0 ≡ head.disks) → one ≡ first_bytes head ++ chunks_bytes chunks →
    disks_behind one read ≡ Ok all → IsOk (ends head chunks read) → mapped upgraded_bytes (ends head chunks read) ≡ Ok all
unfolding image_bytes
disks_rewritten head chunks (Ok x) one all some few before made ok =
    let parts : head_bytes (Fourth (features_of head.version) (window_of head.version)) head.base head.size (length chunks) (length x.0) ++ (chunks_bytes chunks ++ disks_bytes true x.0) ≡ all =
    rw (some, few x refl) (sym (append_assoc (first_bytes head) (chunks_bytes chunks) (disks_bytes true x.0))
    ∙ ap (λ bytes. bytes ++ disks_bytes true x.0) (sym before) ∙ ok_is (one ++ disks_bytes true x.0) all made) in
    ended (length x.1 == 0) (record { version = head.version; base = head.base; size = head.size; chunks = chunks; disks = x.0 }) upgraded_bytes all ok parts
disks_rewritten head chunks (Err fault) one all some few before made ok = absurd cc

chunks_rewritten : (head : Head) (read : Read (List Chunk)) (first one rest all : List ℕ) → first ≡ first_bytes head →
    ((x : List Chunk × List ℕ) → read ≡ Ok x → length x.0 ≡ head.chunks) → chunks_behind first read ≡ Ok (one, rest) →
    disks_behind one (disks_at (is_flagged head.version) [] head.disks rest) ≡ Ok all →
    IsOk (read >>= λ chunks. ends head chunks.0 (disks_at (is_flagged head.version) [] head.disks chunks.1)) →
    mapped upgraded_bytes (read >>= λ chunks. ends head chunks.0 (disks_at (is_flagged head.version) [] head.disks chunks.1)) ≡ Ok all
chunks_rewritten head (Ok x) first one rest all begun some full made ok =
    let both = ok_is (first ++ chunks_bytes x.0, x.1) (one, rest) full in
    let before : first ++ chunks_bytes x.0 ≡ one = ap (λ (p : List ℕ × List ℕ). p.0) both in
    let left : x.1 ≡ rest = ap (λ (p : List ℕ × List ℕ). p.1) both in
    disks_rewritten head x.0 (disks_at (is_flagged head.version) [] head.disks x.1) one all (some x refl)
    (λ y is. disks_counted (is_flagged head.version) [] head.disks x.1 y is)
    (sym before ∙ ap (λ first. first ++ chunks_bytes x.0) begun) (rw left made) ok
chunks_rewritten head (Err fault) first one rest all begun some full made ok = absurd cc

pub image_rewritten : (bytes : List ℕ) (head : Head) (after first one rest all : List ℕ) → head_at bytes ≡ Ok (head, after) → first ≡ first_bytes head →
    chunks_behind first (chunks_at head.base head.size 0 head.chunks after) ≡ Ok (one, rest) →
    disks_behind one (disks_at (is_flagged head.version) [] head.disks rest) ≡ Ok all → IsOk (image_of bytes) →
    mapped upgraded_bytes (image_of bytes) ≡ Ok all
unfolding image_of
image_rewritten bytes head after first one rest all told begun full made ok =
    rw told (chunks_rewritten head (chunks_at head.base head.size 0 head.chunks after) first one rest all begun
    (λ x is. chunks_counted head.base head.size 0 head.chunks after x is) full made (rw told at ok))

-- they are read as that image, and start the same
upgraded_good : (image : Image) → IsImage image → IsImage (upgraded image)
upgraded_good image it = record {
  base = it.base;
  size = it.size;
  chunks = it.chunks;
  few = it.few;
  disks = with_flags (is_flagged image.version) true [] image.disks (λ none. absurd cc) it.disks;
  stated = (can_offer image.version it.stated, can_have image.version it.stated);
  beside = it.beside;
}

read_from : (bytes new : List ℕ) (image : Image) → AreBytes bytes → image_of bytes ≡ Ok image → new ≡ upgraded_bytes image →
    image_of new ≡ mapped upgraded (image_of bytes)
read_from bytes new image are read made =
    rw (read, made) (read_again (upgraded image) (upgraded_good image (read_is bytes image are read).good))

pub reads_upgraded : (bytes new : List ℕ) → AreBytes bytes → mapped upgraded_bytes (image_of bytes) ≡ Ok new →
    image_of new ≡ mapped upgraded (image_of bytes)
reads_upgraded bytes new are made =
    let from = read_as upgraded_bytes (image_of bytes) new made in
    read_from bytes new from.0 are from.1 from.2

same_start : (image : Image) → state_from (upgraded image) ≡ state_from image
unfolding opening_of
same_start image = refl

start_from : (bytes new : List ℕ) (image : Image) → image_of bytes ≡ Ok image → image_of new ≡ mapped upgraded (image_of bytes) →
    mapped state_from (image_of new) ≡ mapped state_from (image_of bytes)
start_from bytes new image read again = rw (again, read) (ap good (same_start image))

pub starts_the_same : (bytes new : List ℕ) → AreBytes bytes → mapped upgraded_bytes (image_of bytes) ≡ Ok new →
    mapped state_from (image_of new) ≡ mapped state_from (image_of bytes)
starts_the_same bytes new are made =
    let from = read_as upgraded_bytes (image_of bytes) new made in
    start_from bytes new from.0 from.1 (reads_upgraded bytes new are made)

same_image : (image : Image) (features : Features) (window : Option Window) → image.version ≡ Fourth features window → upgraded image ≡ image
same_image image features window fourth =
    let version : Fourth (features_of image.version) (window_of image.version) ≡ image.version = rw fourth refl in
    ap (λ (version : Version). record image { version = version }) version

pub comes_back : (bytes new : List ℕ) → AreBytes bytes → mapped upgraded_bytes (image_of bytes) ≡ Ok new → IsUpgraded bytes → new ≡ bytes
comes_back bytes new are made already =
    let from = read_as upgraded_bytes (image_of bytes) new made in
    let image : from.0 ≡ already.image = ok_is from.0 already.image (sym from.1 ∙ already.read) in
    from.2 ∙ ap upgraded_bytes image ∙ ap image_bytes (same_image already.image already.features already.window already.fourth)
    ∙ sym (read_is bytes already.image are already.read).are
