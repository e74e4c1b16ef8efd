-- Chunks put into memory and devices made, one after the other, as a loop does.
use Rattle.std.proofs.Common.{◌≡◌, ℕ, suc, ◌-◌, ◌+◌, ◌≤◌, ◌<◌, Bool, true, false, List, [], ◌∷◌, ◌++◌, length, take, drop, map, Result, Ok, Err, ◌==◌, refl, sym, ap, ◌∙◌, append_assoc, arith}
use Rattle.std.specs.Prelude.{IsOk}
use Rattle.std.specs.Option.{is_some}
use Rattle.std.proofs.lemmas.List.{append-nil, length-append, length-take, length-drop}
use Rattle.iom_mem.specs.Memory.{Memory, size_of, bytes_at, put}
use Rattle.iom_mem.specs.Sizes.{zeroed}
use Rattle.iom_mem.proofs.Bytes.{bytes_at_inside}
use Rattle.iom_image.specs.declared.fault.LoadFault.{LoadFault}
use Rattle.iom_image.specs.declared.fault.LoadFault.TheVariants.{Trailing}
use Rattle.iom_image.specs.Versions.{is_flagged, features_of, window_of}
use Rattle.iom_image.specs.Image.{Chunk, Disk, Image, end_of}
use Rattle.iom_blk.specs.Device.{Device}
use Rattle.iom_core.specs.State.{opening_with}
use Rattle.iom_image.specs.Loading.{with_chunks, started, opening_of, device_of, devices_of, filled, joined, state_from}
use Rattle.iom_image.specs.Reading.{◌>>=◌, Read, Head, checked, mapped, head_at, chunk_at, chunks_at, disk_at, disks_at, image_of}
use Rattle.iom_image.proofs.Oks.{ok_is}

pub inside : (memory : Memory) (addr count : ℕ) → memory.base ≤ addr → addr + count ≤ memory.base + size_of memory →
    is_some (bytes_at memory addr count) ≡ true
inside memory addr count above below =
    ap is_some (bytes_at_inside memory addr (addr - memory.base) count (omega arith) (omega (arith, above, below)))

pub size_put : (memory : Memory) (addr : ℕ) (bytes : List ℕ) → memory.base ≤ addr → addr + length bytes ≤ memory.base + size_of memory →
    size_of (put memory addr bytes) ≡ size_of memory
size_put memory addr bytes above below =
    omega (
      arith,
      above,
      below,
      length-append (take (addr - memory.base) memory.bytes) (bytes ++ drop (addr - memory.base + length bytes) memory.bytes),
      length-append bytes (drop (addr - memory.base + length bytes) memory.bytes),
      length-take (addr - memory.base) memory.bytes,
      length-drop (addr - memory.base + length bytes) memory.bytes,
    )

first_filled : (memory : Memory) (c : Chunk) (read : Read (List Chunk)) →
    filled memory (read >>= λ x. Ok (c ∷ x.0, x.1)) ≡ filled (put memory c.addr c.bytes) read
first_filled memory c (Ok x) = refl
first_filled memory c (Err fault) = refl

pub fill_goes_on : (memory : Memory) (base size end count i : ℕ) (bytes after : List ℕ) (c : Chunk) (total : Result (Memory × List ℕ) LoadFault) →
    i < count → chunk_at base size end bytes ≡ Ok (c, after) → filled memory (chunks_at base size end (count - i) bytes) ≡ total →
    filled (put memory c.addr c.bytes) (chunks_at base size (end_of c) (count - (i + 1)) after) ≡ total
unfolding chunks_at
fill_goes_on memory base size end count i bytes after c total lt h so_far =
    let k : count - i ≡ suc (count - (i + 1)) = omega arith in
    let one : filled memory (chunks_at base size end (count - i) bytes) ≡ filled (put memory c.addr c.bytes) (chunks_at base size (end_of c) (count - (i + 1)) after) =
    rw (k, h) (first_filled memory c (chunks_at base size (end_of c) (count - (i + 1)) after)) in
    sym one ∙ so_far

pub fill_fails : (memory : Memory) (base size end count i : ℕ) (bytes : List ℕ) (fault : LoadFault) (total : Result (Memory × List ℕ) LoadFault) →
    i < count → chunk_at base size end bytes ≡ Err fault → filled memory (chunks_at base size end (count - i) bytes) ≡ total →
    total ≡ Err fault
unfolding chunks_at
fill_fails memory base size end count i bytes fault total lt h so_far =
    let k : count - i ≡ suc (count - (i + 1)) = omega arith in
    let one : filled memory (chunks_at base size end (count - i) bytes) ≡ Err fault = rw (k, h) refl in
    sym so_far ∙ one

pub fill_done : (memory : Memory) (base size end count i : ℕ) (bytes : List ℕ) (total : Result (Memory × List ℕ) LoadFault) → count ≤ i →
    filled memory (chunks_at base size end (count - i) bytes) ≡ total → total ≡ Ok (memory, bytes)
unfolding chunks_at
fill_done memory base size end count i bytes total le so_far =
    let k : count - i ≡ 0 = omega arith in
    let one : filled memory (chunks_at base size end (count - i) bytes) ≡ Ok (memory, bytes) = rw k refl in
    sym so_far ∙ one

first_joined : (before : List (ℕ × Device)) (d : Disk) (read : Read (List Disk)) →
    joined before (read >>= λ x. Ok (d ∷ x.0, x.1)) ≡ joined (before ++ device_of (started d) ∷ []) read
first_joined before d (Ok x) = ap Ok (sym (append_assoc before (device_of (started d) ∷ []) (devices_of (map started x.0))))
first_joined before d (Err fault) = refl

pub join_goes_on : (before : List (ℕ × Device)) (has_flags : Bool) (ids : List ℕ) (count i : ℕ) (bytes after : List ℕ) (d : Disk) (total : Result (List (ℕ × Device)) LoadFault) →
    i < count → disk_at has_flags ids bytes ≡ Ok (d, after) → joined before (disks_at has_flags ids (count - i) bytes) ≡ total →
    joined (before ++ device_of (started d) ∷ []) (disks_at has_flags (ids ++ d.id ∷ []) (count - (i + 1)) after) ≡ total
unfolding disks_at
join_goes_on before has_flags ids count i bytes after d total lt h so_far =
    let k : count - i ≡ suc (count - (i + 1)) = omega arith in
    let one : joined before (disks_at has_flags ids (count - i) bytes) ≡ joined (before ++ device_of (started d) ∷ []) (disks_at has_flags (ids ++ d.id ∷ []) (count - (i + 1)) after) =
    rw (k, h) (first_joined before d (disks_at has_flags (ids ++ d.id ∷ []) (count - (i + 1)) after)) in
    sym one ∙ so_far

pub join_fails : (before : List (ℕ × Device)) (has_flags : Bool) (ids : List ℕ) (count i : ℕ) (bytes : List ℕ) (fault : LoadFault) (total : Result (List (ℕ × Device)) LoadFault) →
    i < count → disk_at has_flags ids bytes ≡ Err fault → joined before (disks_at has_flags ids (count - i) bytes) ≡ total → total ≡ Err fault
unfolding disks_at
join_fails before has_flags ids count i bytes fault total lt h so_far =
    let k : count - i ≡ suc (count - (i + 1)) = omega arith in
    let one : joined before (disks_at has_flags ids (count - i) bytes) ≡ Err fault = rw (k, h) refl in
    sym so_far ∙ one

pub join_done : (before : List (ℕ × Device)) (has_flags : Bool) (ids : List ℕ) (count i : ℕ) (bytes : List ℕ) (total : Result (List (ℕ × Device)) LoadFault) → count ≤ i →
    joined before (disks_at has_flags ids (count - i) bytes) ≡ total → total ≡ Ok before
unfolding disks_at
join_done before has_flags ids count i bytes total le so_far =
    let k : count - i ≡ 0 = omega arith in
    let one : joined before (disks_at has_flags ids (count - i) bytes) ≡ Ok before = rw k (ap Ok (append-nil before)) in
    sym so_far ∙ one

-- The image that was judged before is built.
abbrev pub ends : Head → List Chunk → Read (List Disk) → Result Image LoadFault
ends head chunks read =
    read >>= λ disks. checked (length disks.1 == 0) Trailing
    (Ok (record { version = head.version; base = head.base; size = head.size; chunks = chunks; disks = disks.0 }))

pub ended : {A B : Type 0} (b : Bool) (x : A) (f : A → B) (s : B) → IsOk (checked b Trailing (Ok x)) → f x ≡ s →
    mapped f (checked b Trailing (Ok x)) ≡ Ok s
ended true x f s ok e = ap Ok e
ended false x f s ok e = absurd cc

devices_built : (head : Head) (chunks : List Chunk) (read : Read (List Disk)) (devices : List (ℕ × Device)) →
    joined [] read ≡ Ok devices → IsOk (ends head chunks read) →
    mapped state_from (ends head chunks read) ≡ Ok (opening_with (features_of head.version) (window_of head.version) (with_chunks (zeroed head.base head.size) chunks) devices)
unfolding opening_of
devices_built head chunks (Ok x) devices made ok =
    let is : devices_of (map started x.0) ≡ devices = ok_is (devices_of (map started x.0)) devices made in
    ended (length x.1 == 0) (record { version = head.version; base = head.base; size = head.size; chunks = chunks; disks = x.0 }) state_from _ ok (rw is refl)
devices_built head chunks (Err fault) devices made ok = absurd cc

chunks_built : (head : Head) (read : Read (List Chunk)) (memory : Memory) (rest : List ℕ) (devices : List (ℕ × Device)) →
    filled (zeroed head.base head.size) read ≡ Ok (memory, rest) → joined [] (disks_at (is_flagged head.version) [] head.disks rest) ≡ Ok devices →
    IsOk (read >>= λ chunks. ends head chunks.0 (disks_at (is_flagged head.version) [] head.disks chunks.1)) →
    mapped state_from (read >>= λ chunks. ends head chunks.0 (disks_at (is_flagged head.version) [] head.disks chunks.1)) ≡ Ok (opening_with (features_of head.version) (window_of head.version) memory devices)
chunks_built head (Ok x) memory rest devices full made ok =
    let both = ok_is (with_chunks (zeroed head.base head.size) x.0, x.1) (memory, rest) full in
    let put_there : with_chunks (zeroed head.base head.size) x.0 ≡ memory = ap (λ (p : Memory × List ℕ). p.0) both in
    let left : x.1 ≡ rest = ap (λ (p : Memory × List ℕ). p.1) both in
    rw (← put_there) (devices_built head x.0 (disks_at (is_flagged head.version) [] head.disks x.1) devices (rw left made) ok)
chunks_built head (Err fault) memory rest devices full made ok = absurd cc

pub image_built : (bytes : List ℕ) (head : Head) (after : List ℕ) (memory : Memory) (rest : List ℕ) (devices : List (ℕ × Device)) →
    head_at bytes ≡ Ok (head, after) →
    filled (zeroed head.base head.size) (chunks_at head.base head.size 0 head.chunks after) ≡ Ok (memory, rest) →
    joined [] (disks_at (is_flagged head.version) [] head.disks rest) ≡ Ok devices → IsOk (image_of bytes) →
    mapped state_from (image_of bytes) ≡ Ok (opening_with (features_of head.version) (window_of head.version) memory devices)
unfolding image_of
image_built bytes head after memory rest devices first full made ok =
    rw first (chunks_built head (chunks_at head.base head.size 0 head.chunks after) memory rest devices full made (rw first at ok))

-- Such an image has no disk that is refused.
disks_refused : (head : Head) (chunks : List Chunk) (read : Read (List Disk)) (fault : LoadFault) → joined [] read ≡ Err fault →
    IsOk (ends head chunks read) → mapped state_from (ends head chunks read) ≡ Err fault
disks_refused head chunks (Ok x) fault made ok = absurd cc
disks_refused head chunks (Err other) fault made ok = absurd cc

chunks_before_refused : (head : Head) (read : Read (List Chunk)) (memory : Memory) (rest : List ℕ) (fault : LoadFault) →
    filled (zeroed head.base head.size) read ≡ Ok (memory, rest) → joined [] (disks_at (is_flagged head.version) [] head.disks rest) ≡ Err fault →
    IsOk (read >>= λ chunks. ends head chunks.0 (disks_at (is_flagged head.version) [] head.disks chunks.1)) →
    mapped state_from (read >>= λ chunks. ends head chunks.0 (disks_at (is_flagged head.version) [] head.disks chunks.1)) ≡ Err fault
chunks_before_refused head (Ok x) memory rest fault full made ok =
    let both = ok_is (with_chunks (zeroed head.base head.size) x.0, x.1) (memory, rest) full in
    let left : x.1 ≡ rest = ap (λ (p : Memory × List ℕ). p.1) both in
    disks_refused head x.0 (disks_at (is_flagged head.version) [] head.disks x.1) fault (rw left made) ok
chunks_before_refused head (Err other) memory rest fault full made ok = absurd cc

pub image_refused : (bytes : List ℕ) (head : Head) (after : List ℕ) (memory : Memory) (rest : List ℕ) (fault : LoadFault) →
    head_at bytes ≡ Ok (head, after) →
    filled (zeroed head.base head.size) (chunks_at head.base head.size 0 head.chunks after) ≡ Ok (memory, rest) →
    joined [] (disks_at (is_flagged head.version) [] head.disks rest) ≡ Err fault → IsOk (image_of bytes) →
    mapped state_from (image_of bytes) ≡ Err fault
unfolding image_of
image_refused bytes head after memory rest fault first full made ok =
    rw first (chunks_before_refused head (chunks_at head.base head.size 0 head.chunks after) memory rest fault full made (rw first at ok))
