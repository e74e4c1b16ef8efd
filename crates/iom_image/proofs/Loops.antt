-- Chunks and disks one after the other, as a loop reads them: what is left, read from here, is what all gives.
use Rattle.std.proofs.Common.{◌≡◌, ℕ, suc, ◌-◌, ◌+◌, ◌≤◌, ◌<◌, Bool, List, [], ◌∷◌, ◌++◌, Result, Ok, Err, refl, sym, ◌∙◌, arith}
use Rattle.iom_image.specs.declared.fault.LoadFault.{LoadFault}
use Rattle.iom_image.specs.Image.{Chunk, Disk, end_of}
use Rattle.iom_image.specs.Reading.{◌>>=◌, Read, rest_of, chunk_at, chunks_at, disk_at, disks_at}

first_left : {A : Type 0} (first : A) (read : Read (List A)) → rest_of (read >>= λ x. Ok (first ∷ x.0, x.1)) ≡ rest_of read
first_left first (Ok x) = refl
first_left first (Err fault) = refl

pub chunks_go_on : (base size end count i : ℕ) (bytes after : List ℕ) (c : Chunk) (total : Result (List ℕ) LoadFault) →
    i < count → chunk_at base size end bytes ≡ Ok (c, after) → rest_of (chunks_at base size end (count - i) bytes) ≡ total →
    rest_of (chunks_at base size (end_of c) (count - (i + 1)) after) ≡ total
unfolding chunks_at
chunks_go_on base size end count i bytes after c total lt h so_far =
    let k : count - i ≡ suc (count - (i + 1)) = omega arith in
    let one : rest_of (chunks_at base size end (count - i) bytes) ≡ rest_of (chunks_at base size (end_of c) (count - (i + 1)) after) =
    rw (k, h) (first_left c (chunks_at base size (end_of c) (count - (i + 1)) after)) in
    sym one ∙ so_far

pub chunks_fail : (base size end count i : ℕ) (bytes : List ℕ) (fault : LoadFault) (total : Result (List ℕ) LoadFault) →
    i < count → chunk_at base size end bytes ≡ Err fault → rest_of (chunks_at base size end (count - i) bytes) ≡ total →
    total ≡ Err fault
unfolding chunks_at
chunks_fail base size end count i bytes fault total lt h so_far =
    let k : count - i ≡ suc (count - (i + 1)) = omega arith in
    let one : rest_of (chunks_at base size end (count - i) bytes) ≡ Err fault = rw (k, h) refl in
    sym so_far ∙ one

pub chunks_done : (base size end count i : ℕ) (bytes : List ℕ) (total : Result (List ℕ) LoadFault) → count ≤ i →
    rest_of (chunks_at base size end (count - i) bytes) ≡ total → total ≡ Ok bytes
unfolding chunks_at
chunks_done base size end count i bytes total le so_far =
    let k : count - i ≡ 0 = omega arith in
    let one : rest_of (chunks_at base size end (count - i) bytes) ≡ Ok bytes = rw k refl in
    sym so_far ∙ one

pub disks_go_on : (has_flags : Bool) (ids : List ℕ) (count i : ℕ) (bytes after : List ℕ) (d : Disk) (total : Result (List ℕ) LoadFault) →
    i < count → disk_at has_flags ids bytes ≡ Ok (d, after) → rest_of (disks_at has_flags ids (count - i) bytes) ≡ total →
    rest_of (disks_at has_flags (ids ++ d.id ∷ []) (count - (i + 1)) after) ≡ total
unfolding disks_at
disks_go_on has_flags ids count i bytes after d total lt h so_far =
    let k : count - i ≡ suc (count - (i + 1)) = omega arith in
    let one : rest_of (disks_at has_flags ids (count - i) bytes) ≡ rest_of (disks_at has_flags (ids ++ d.id ∷ []) (count - (i + 1)) after) =
    rw (k, h) (first_left d (disks_at has_flags (ids ++ d.id ∷ []) (count - (i + 1)) after)) in
    sym one ∙ so_far

pub disks_fail : (has_flags : Bool) (ids : List ℕ) (count i : ℕ) (bytes : List ℕ) (fault : LoadFault) (total : Result (List ℕ) LoadFault) →
    i < count → disk_at has_flags ids bytes ≡ Err fault → rest_of (disks_at has_flags ids (count - i) bytes) ≡ total → total ≡ Err fault
unfolding disks_at
disks_fail has_flags ids count i bytes fault total lt h so_far =
    let k : count - i ≡ suc (count - (i + 1)) = omega arith in
    let one : rest_of (disks_at has_flags ids (count - i) bytes) ≡ Err fault = rw (k, h) refl in
    sym so_far ∙ one

pub disks_done : (has_flags : Bool) (ids : List ℕ) (count i : ℕ) (bytes : List ℕ) (total : Result (List ℕ) LoadFault) → count ≤ i →
    rest_of (disks_at has_flags ids (count - i) bytes) ≡ total → total ≡ Ok bytes
unfolding disks_at
disks_done has_flags ids count i bytes total le so_far =
    let k : count - i ≡ 0 = omega arith in
    let one : rest_of (disks_at has_flags ids (count - i) bytes) ≡ Ok bytes = rw k refl in
    sym so_far ∙ one
