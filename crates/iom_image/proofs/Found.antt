-- Bytes that are read as an image are its bytes.
use Rattle.std.proofs.Common.{◌≡◌, ℕ, zero, suc, ◌+◌, ◌*◌, ◌/◌, ◌%◌, ◌^◌, ◌≤◌, ◌==◌, Bool, true, false, Option, Some, None, ◌&&◌, nat_lt, nat_le, List, [], ◌∷◌, ◌++◌, length, take, drop, bytes_eq, codes, Result, Ok, Err, refl, sym, subst, ap, ◌∙◌, append_assoc, append-nil, arith}
use Rattle.std.specs.Prelude.{◌↔◌, if◌then◌else◌}
use Rattle.std.proofs.lemmas.Bool.{leb-true, ltb-true, eqb-true, and_parts}
use Rattle.std.proofs.lemmas.List.{take-append-drop, length-take, nil_from_length}
use Rattle.iom_bits.specs.Bits.{flag}
use Rattle.iom_bits.specs.Features.{Features}
use Rattle.iom_bits.specs.Bytes.{number_of_bytes, bytes_of_number}
use Rattle.iom_mem.specs.Lent.{is_lendable}
use Rattle.iom_mem.specs.Sizes.{is_paged, is_good_size}
use Rattle.iom_messages.specs.declared.window.Window.{Window}
use Rattle.iom_regs.specs.Offers.{capabilities_of}
use Rattle.iom_image.specs.declared.fault.LoadFault.{LoadFault}
use Rattle.iom_image.specs.declared.fault.LoadFault.TheVariants.{BadMagic, BadCapabilities, Truncated, Trailing, BadRam, BadWindow, BadChunk, BadDevice}
use Rattle.iom_image.specs.declared.version.Version.{Version}
use Rattle.iom_image.specs.declared.version.Version.TheVariants.{First, Second, Third, Fourth}
use Rattle.iom_image.specs.Versions.{CanState, are_words, features_in, has_window, is_beside, is_flagged, is_third_word, is_window, choices_of, third_features, version_bytes, window_bit, window_bytes, window_of}
use Rattle.iom_image.specs.Image.{Chunk, Disk, Image, IsChunk, AreChunks, IsDisk, AreDisks, IsImageOf, AreBytes, end_of, is_new_id, is_disk_size, chunk_bytes, chunks_bytes, flags_bytes, disk_bytes, disks_bytes, head_bytes, image_bytes}
use Rattle.iom_image.specs.Reading.{◌>>=◌, checked, Head, part_at, number_at, third_at, window_at, fourth_at, version_of, version_at, head_at, chunk_at, chunks_at, flags_at, disk_at, disks_at, image_of, mapped}
use Rattle.iom_image.proofs.Images.{read_again}
use Rattle.iom_image.proofs.Oks.{ok_is}
use Rattle.iom_image.proofs.Stated.{choices_whole, third_is, words_back}

abbrev good : {A : Type 0} → A → Result A LoadFault
good x = Ok x

pub bind_ok : {A B : Type 0} (read : Result A LoadFault) (f : A → Result B LoadFault) (y : B) → (read >>= f) ≡ Ok y → (x : A) × (read ≡ Ok x) × (f x ≡ Ok y)
bind_ok (Ok x) f y is = (x, refl, is)
bind_ok (Err fault) f y is = absurd cc

pub check_ok : {A : Type 0} (b : Bool) (fault : LoadFault) (next : Result A LoadFault) (y : A) → checked b fault next ≡ Ok y → (b ≡ true) × (next ≡ Ok y)
check_ok true fault next y is = (refl, is)
check_ok false fault next y is = absurd cc

pub read_as : {A B : Type 0} (f : A → B) (read : Result A LoadFault) (y : B) → mapped f read ≡ Ok y → (x : A) × (read ≡ Ok x) × (y ≡ f x)
read_as f (Ok x) y is = (x, refl, search is)
read_as f (Err fault) y is = absurd cc

bytes_end : (first second : List ℕ) → AreBytes (first ++ second) → AreBytes second
bytes_end [] second are = are
bytes_end (b ∷ first) second are = bytes_end first second are.1

bytes_start : (first second : List ℕ) → AreBytes (first ++ second) → AreBytes first
bytes_start [] second are = tt
bytes_start (b ∷ first) second are = (are.0, bytes_start first second are.1)

-- what was taken from the front, and what is left
record Takes (bytes text rest : List ℕ) : Type 0 where
  parts : bytes ≡ text ++ rest
  left : AreBytes rest

then_takes : (a x b y c : List ℕ) → Takes a x b → Takes b y c → Takes a (x ++ y) c
then_takes a x b y c p q = record { parts = p.parts ∙ ap (λ t. x ++ t) q.parts ∙ sym (append_assoc x y c); left = q.left }

number_there : (count : ℕ) (bytes : List ℕ) → length bytes ≡ count → AreBytes bytes → bytes_of_number count (number_of_bytes bytes) ≡ bytes
number_there zero [] len are = refl
number_there zero (b ∷ bytes) len are = absurd (omega (arith, len))
number_there (suc count) [] len are = absurd (omega (arith, len))
number_there (suc count) (b ∷ bytes) len are =
    let low : (b + 256 * number_of_bytes bytes) % 256 ≡ b = omega (arith, are.0) in
    let high : (b + 256 * number_of_bytes bytes) / 256 ≡ number_of_bytes bytes = omega (arith, are.0) in
    rw (low, high) (ap (λ rest. b ∷ rest) (number_there count bytes (omega (arith, len)) are.1))

part_takes : (count : ℕ) (bytes : List ℕ) (x : List ℕ × List ℕ) → AreBytes bytes → part_at count bytes ≡ Ok x →
    Takes bytes x.0 x.1 × (length x.0 ≡ count) × AreBytes x.0
unfolding part_at
part_takes count bytes x are is =
    let check = check_ok (nat_le count (length bytes)) Truncated (Ok (take count bytes, drop count bytes)) x is in
    let long : count ≤ length bytes = leb-true count (length bytes) check.0 in
    let whole : AreBytes (take count bytes ++ drop count bytes) = subst AreBytes (sym (take-append-drop count bytes)) are in
    subst (λ (x : List ℕ × List ℕ). Takes bytes x.0 x.1 × (length x.0 ≡ count) × AreBytes x.0) (ok_is (take count bytes, drop count bytes) x check.1) (
      record { parts = sym (take-append-drop count bytes); left = bytes_end (take count bytes) (drop count bytes) whole },
      omega (arith, long, length-take count bytes),
      bytes_start (take count bytes) (drop count bytes) whole,
    )

number_takes : (count : ℕ) (bytes : List ℕ) (x : ℕ × List ℕ) → AreBytes bytes → number_at count bytes ≡ Ok x → Takes bytes (bytes_of_number count x.0) x.1
unfolding number_at
number_takes count bytes x are is =
    let step = bind_ok (part_at count bytes) (λ part. Ok (number_of_bytes part.0, part.1)) x is in
    let part = part_takes count bytes step.0 are step.1 in
    subst (λ (x : ℕ × List ℕ). Takes bytes (bytes_of_number count x.0) x.1) (ok_is (number_of_bytes step.0.0, step.0.1) x step.2)
    (record { parts = rw (number_there count step.0.0 part.1 part.2) part.0.parts; left = part.0.left })

chunk_ends : (base size end : ℕ) (bytes : List ℕ) (addr len : ℕ × List ℕ) (text : List ℕ × List ℕ) (x : Chunk × List ℕ) →
    Takes bytes (bytes_of_number 8 addr.0) addr.1 → Takes addr.1 (bytes_of_number 4 len.0) len.1 → Takes len.1 text.0 text.1 →
    length text.0 ≡ len.0 → nat_le end addr.0 ≡ true →
    (nat_lt 0 len.0 && (nat_le base addr.0 && nat_le (addr.0 + len.0) (base + size))) ≡ true →
    good (record { addr = addr.0; bytes = text.0 }, text.1) ≡ Ok x → Takes bytes (chunk_bytes x.0) x.1 × IsChunk base size end x.0
chunk_ends base size end bytes addr len text x t0 t1 t2 same above inside is =
    let p = and_parts (nat_lt 0 len.0) (nat_le base addr.0 && nat_le (addr.0 + len.0) (base + size)) inside in
    let q = and_parts (nat_le base addr.0) (nat_le (addr.0 + len.0) (base + size)) p.1 in
    let inner = then_takes addr.1 (bytes_of_number 4 len.0) len.1 text.0 text.1 t1 t2 in
    let all = then_takes bytes (bytes_of_number 8 addr.0) addr.1 (bytes_of_number 4 len.0 ++ text.0) text.1 t0 inner in
    let made : Chunk × List ℕ = (record { addr = addr.0; bytes = text.0 }, text.1) in
    subst (λ (y : Chunk × List ℕ). Takes bytes (chunk_bytes y.0) y.1 × IsChunk base size end y.0) {x = made} (ok_is made x is) (
      subst (λ (n : ℕ). Takes bytes (bytes_of_number 8 addr.0 ++ (bytes_of_number 4 n ++ text.0)) text.1) (sym same) all,
      record {
        after = leb-true end addr.0 above;
        some = omega (arith, same, ltb-true 0 len.0 p.0);
        above = leb-true base addr.0 q.0;
        below = omega (arith, same, leb-true (addr.0 + len.0) (base + size) q.1);
      },
    )

chunk_takes : (base size end : ℕ) (bytes : List ℕ) (x : Chunk × List ℕ) → AreBytes bytes → chunk_at base size end bytes ≡ Ok x →
    Takes bytes (chunk_bytes x.0) x.1 × IsChunk base size end x.0
unfolding chunk_at
chunk_takes base size end bytes x are is =
    let a = bind_ok (number_at 8 bytes) (λ addr. checked (nat_le end addr.0) BadChunk (number_at 4 addr.1 >>= λ len.
    checked (nat_lt 0 len.0 && (nat_le base addr.0 && nat_le (addr.0 + len.0) (base + size))) BadChunk
    (part_at len.0 len.1 >>= λ text. Ok (record { addr = addr.0; bytes = text.0 }, text.1)))) x is in
    let addr = a.0 in
    let above = check_ok (nat_le end addr.0) BadChunk (number_at 4 addr.1 >>= λ len.
    checked (nat_lt 0 len.0 && (nat_le base addr.0 && nat_le (addr.0 + len.0) (base + size))) BadChunk
    (part_at len.0 len.1 >>= λ text. Ok (record { addr = addr.0; bytes = text.0 }, text.1))) x a.2 in
    let b = bind_ok (number_at 4 addr.1) (λ len.
    checked (nat_lt 0 len.0 && (nat_le base addr.0 && nat_le (addr.0 + len.0) (base + size))) BadChunk
    (part_at len.0 len.1 >>= λ text. Ok (record { addr = addr.0; bytes = text.0 }, text.1))) x above.1 in
    let len = b.0 in
    let inside = check_ok (nat_lt 0 len.0 && (nat_le base addr.0 && nat_le (addr.0 + len.0) (base + size))) BadChunk
    (part_at len.0 len.1 >>= λ text. Ok (record { addr = addr.0; bytes = text.0 }, text.1)) x b.2 in
    let c = bind_ok (part_at len.0 len.1) (λ text. Ok (record { addr = addr.0; bytes = text.0 }, text.1)) x inside.1 in
    let t0 = number_takes 8 bytes addr are a.1 in
    let t1 = number_takes 4 addr.1 len t0.left b.1 in
    let t2 = part_takes len.0 len.1 c.0 t1.left c.1 in
    chunk_ends base size end bytes addr len c.0 x t0 t1 t2.0 t2.1 above.0 inside.0 c.2

chunks_take : (base size end count : ℕ) (bytes : List ℕ) (x : List Chunk × List ℕ) → AreBytes bytes → chunks_at base size end count bytes ≡ Ok x →
    Takes bytes (chunks_bytes x.0) x.1 × (length x.0 ≡ count) × AreChunks base size end x.0
unfolding chunks_at
chunks_take base size end zero bytes x are is =
    subst (λ (x : List Chunk × List ℕ). Takes bytes (chunks_bytes x.0) x.1 × (length x.0 ≡ 0) × AreChunks base size end x.0) (ok_is ([], bytes) x is)
    (record { parts = refl; left = are }, refl, tt)
chunks_take base size end (suc count) bytes x are is =
    let a = bind_ok (chunk_at base size end bytes) (λ first. chunks_at base size (end_of first.0) count first.1 >>= λ others. Ok (first.0 ∷ others.0, others.1)) x is in
    let b = bind_ok (chunks_at base size (end_of a.0.0) count a.0.1) (λ others. Ok (a.0.0 ∷ others.0, others.1)) x a.2 in
    let first = chunk_takes base size end bytes a.0 are a.1 in
    let others = chunks_take base size (end_of a.0.0) count a.0.1 b.0 first.0.left b.1 in
    let both = then_takes bytes (chunk_bytes a.0.0) a.0.1 (chunks_bytes b.0.0) b.0.1 first.0 others.0 in
    let made : List Chunk × List ℕ = (a.0.0 ∷ b.0.0, b.0.1) in
    subst (λ (x : List Chunk × List ℕ). Takes bytes (chunks_bytes x.0) x.1 × (length x.0 ≡ suc count) × AreChunks base size end x.0) {x = made} (ok_is made x b.2)
    (both, ap suc others.1, (first.1, others.2))

disk_ends : (has_flags : Bool) (ids bytes : List ℕ) (id sectors : ℕ × List ℕ) (read_only : Bool × List ℕ) (len : ℕ × List ℕ) (text : List ℕ × List ℕ) (x : Disk × List ℕ) →
    Takes bytes (bytes_of_number 4 id.0) id.1 → Takes id.1 (bytes_of_number 4 sectors.0) sectors.1 →
    Takes sectors.1 (flags_bytes has_flags read_only.0) read_only.1 → Takes read_only.1 (bytes_of_number 4 len.0) len.1 →
    Takes len.1 text.0 text.1 → length text.0 ≡ len.0 → is_new_id ids id.0 ≡ true → is_disk_size sectors.0 ≡ true →
    (has_flags ≡ false → read_only.0 ≡ false) → nat_le len.0 (sectors.0 * 512) ≡ true →
    good (record { id = id.0; sectors = sectors.0; read_only = read_only.0; bytes = text.0 }, text.1) ≡ Ok x →
    Takes bytes (disk_bytes has_flags x.0) x.1 × IsDisk has_flags ids x.0
disk_ends has_flags ids bytes id sectors read_only len text x t0 t1 t2 t3 t4 same new sized writable fits is =
    let f = flags_bytes has_flags read_only.0 in
    let inner = then_takes read_only.1 (bytes_of_number 4 len.0) len.1 text.0 text.1 t3 t4 in
    let middle = then_takes sectors.1 f read_only.1 (bytes_of_number 4 len.0 ++ text.0) text.1 t2 inner in
    let outer = then_takes id.1 (bytes_of_number 4 sectors.0) sectors.1 (f ++ (bytes_of_number 4 len.0 ++ text.0)) text.1 t1 middle in
    let all = then_takes bytes (bytes_of_number 4 id.0) id.1 (bytes_of_number 4 sectors.0 ++ (f ++ (bytes_of_number 4 len.0 ++ text.0))) text.1 t0 outer in
    let made : Disk × List ℕ = (record { id = id.0; sectors = sectors.0; read_only = read_only.0; bytes = text.0 }, text.1) in
    subst (λ (y : Disk × List ℕ). Takes bytes (disk_bytes has_flags y.0) y.1 × IsDisk has_flags ids y.0) {x = made} (ok_is made x is) (
      subst (λ (n : ℕ). Takes bytes (bytes_of_number 4 id.0 ++ (bytes_of_number 4 sectors.0 ++ (f ++ (bytes_of_number 4 n ++ text.0)))) text.1) (sym same) all,
      record { id = new; sectors = sized; room = omega (arith, same, leb-true len.0 (sectors.0 * 512) fits); writable = writable },
    )

flag_there : (n : ℕ) → nat_le n 1 ≡ true → flag (n == 1) ≡ n
flag_there zero small = refl
flag_there (suc zero) small = refl
flag_there (suc (suc n)) small = let few : suc (suc n) ≤ 1 = leb-true (suc (suc n)) 1 small in absurd (omega (arith, few))

flags_take : (has_flags : Bool) (bytes : List ℕ) (x : Bool × List ℕ) → AreBytes bytes → flags_at has_flags bytes ≡ Ok x →
    Takes bytes (flags_bytes has_flags x.0) x.1 × (has_flags ≡ false → x.0 ≡ false)
unfolding flags_at
flags_take false bytes x are is =
    subst (λ (x : Bool × List ℕ). Takes bytes [] x.1 × (false ≡ false → x.0 ≡ false)) (ok_is (false, bytes) x is)
    (record { parts = refl; left = are }, λ _. refl)
flags_take true bytes x are is =
    let a = bind_ok (number_at 4 bytes) (λ flags. checked (nat_le flags.0 1) BadDevice (Ok (flags.0 == 1, flags.1))) x is in
    let small = check_ok (nat_le a.0.0 1) BadDevice (Ok (a.0.0 == 1, a.0.1)) x a.2 in
    let first = number_takes 4 bytes a.0 are a.1 in
    subst (λ (x : Bool × List ℕ). Takes bytes (flags_bytes true x.0) x.1 × (true ≡ false → x.0 ≡ false)) (ok_is (a.0.0 == 1, a.0.1) x small.1)
    (rw (flag_there a.0.0 small.0) first, λ none. absurd cc)

-- the end of a disk, from its flags on, and from its length on
abbrev behind_length : ℕ × List ℕ → ℕ × List ℕ → Bool × List ℕ → ℕ × List ℕ → Result (Disk × List ℕ) LoadFault
behind_length id sectors read_only len =
    checked (nat_le len.0 (sectors.0 * 512)) BadDevice (part_at len.0 len.1 >>= λ text.
    Ok (record { id = id.0; sectors = sectors.0; read_only = read_only.0; bytes = text.0 }, text.1))

abbrev behind_sectors : Bool → ℕ × List ℕ → ℕ × List ℕ → Result (Disk × List ℕ) LoadFault
behind_sectors has_flags id sectors =
    checked (is_disk_size sectors.0) BadDevice (flags_at has_flags sectors.1 >>= λ read_only. number_at 4 read_only.1 >>= λ len.
    behind_length id sectors read_only len)

disk_takes : (has_flags : Bool) (ids bytes : List ℕ) (x : Disk × List ℕ) → AreBytes bytes → disk_at has_flags ids bytes ≡ Ok x →
    Takes bytes (disk_bytes has_flags x.0) x.1 × IsDisk has_flags ids x.0
unfolding disk_at
disk_takes has_flags ids bytes x are is =
    let a = bind_ok (number_at 4 bytes) (λ id. checked (is_new_id ids id.0) BadDevice (number_at 4 id.1 >>= λ sectors. behind_sectors has_flags id sectors)) x is in
    let id = a.0 in
    let new = check_ok (is_new_id ids id.0) BadDevice (number_at 4 id.1 >>= λ sectors. behind_sectors has_flags id sectors) x a.2 in
    let b = bind_ok (number_at 4 id.1) (λ sectors. behind_sectors has_flags id sectors) x new.1 in
    let sectors = b.0 in
    let sized = check_ok (is_disk_size sectors.0) BadDevice
    (flags_at has_flags sectors.1 >>= λ read_only. number_at 4 read_only.1 >>= λ len. behind_length id sectors read_only len) x b.2 in
    let f = bind_ok (flags_at has_flags sectors.1) (λ read_only. number_at 4 read_only.1 >>= λ len. behind_length id sectors read_only len) x sized.1 in
    let read_only = f.0 in
    let c = bind_ok (number_at 4 read_only.1) (λ len. behind_length id sectors read_only len) x f.2 in
    let len = c.0 in
    let fits = check_ok (nat_le len.0 (sectors.0 * 512)) BadDevice (part_at len.0 len.1 >>= λ text.
    Ok (record { id = id.0; sectors = sectors.0; read_only = read_only.0; bytes = text.0 }, text.1)) x c.2 in
    let d = bind_ok (part_at len.0 len.1) (λ text. Ok (record { id = id.0; sectors = sectors.0; read_only = read_only.0; bytes = text.0 }, text.1)) x fits.1 in
    let t0 = number_takes 4 bytes id are a.1 in
    let t1 = number_takes 4 id.1 sectors t0.left b.1 in
    let t2 = flags_take has_flags sectors.1 read_only t1.left f.1 in
    let t3 = number_takes 4 read_only.1 len t2.0.left c.1 in
    let t4 = part_takes len.0 len.1 d.0 t3.left d.1 in
    disk_ends has_flags ids bytes id sectors read_only len d.0 x t0 t1 t2.0 t3 t4.0 t4.1 new.0 sized.0 t2.1 fits.0 d.2

disks_take : (has_flags : Bool) (ids : List ℕ) (count : ℕ) (bytes : List ℕ) (x : List Disk × List ℕ) → AreBytes bytes → disks_at has_flags ids count bytes ≡ Ok x →
    Takes bytes (disks_bytes has_flags x.0) x.1 × (length x.0 ≡ count) × AreDisks has_flags ids x.0
unfolding disks_at
disks_take has_flags ids zero bytes x are is =
    subst (λ (x : List Disk × List ℕ). Takes bytes (disks_bytes has_flags x.0) x.1 × (length x.0 ≡ 0) × AreDisks has_flags ids x.0) (ok_is ([], bytes) x is)
    (record { parts = refl; left = are }, refl, tt)
disks_take has_flags ids (suc count) bytes x are is =
    let a = bind_ok (disk_at has_flags ids bytes) (λ first. disks_at has_flags (ids ++ first.0.id ∷ []) count first.1 >>= λ others. Ok (first.0 ∷ others.0, others.1)) x is in
    let b = bind_ok (disks_at has_flags (ids ++ a.0.0.id ∷ []) count a.0.1) (λ others. Ok (a.0.0 ∷ others.0, others.1)) x a.2 in
    let first = disk_takes has_flags ids bytes a.0 are a.1 in
    let others = disks_take has_flags (ids ++ a.0.0.id ∷ []) count a.0.1 b.0 first.0.left b.1 in
    let both = then_takes bytes (disk_bytes has_flags a.0.0) a.0.1 (disks_bytes has_flags b.0.0) b.0.1 first.0 others.0 in
    let made : List Disk × List ℕ = (a.0.0 ∷ b.0.0, b.0.1) in
    subst (λ (x : List Disk × List ℕ). Takes bytes (disks_bytes has_flags x.0) x.1 × (length x.0 ≡ suc count) × AreDisks has_flags ids x.0) {x = made} (ok_is made x b.2)
    (both, ap suc others.1, (first.1, others.2))

-- what the head says
record HeadTakes (bytes : List ℕ) (x : Head × List ℕ) : Type 0 where
  takes : Takes bytes (head_bytes x.0.version x.0.base x.0.size x.0.chunks x.0.disks) x.1
  base : is_paged x.0.base ≡ true
  size : is_good_size x.0.base x.0.size ≡ true
  few : x.0.disks ≤ 8
  stated : CanState x.0.version
  beside : is_beside (window_of x.0.version) x.0.base x.0.size ≡ true

pub same_bytes : (first second : List ℕ) → bytes_eq first second ≡ true → first ≡ second
same_bytes [] [] is = refl
same_bytes [] (b ∷ second) is = absurd cc
same_bytes (a ∷ first) [] is = absurd cc
same_bytes (a ∷ first) (b ∷ second) is =
    let p = and_parts (a == b) (bytes_eq first second) is in
    let same : a ≡ b = eqb-true a b p.0 in
    rw same (ap (λ rest. b ∷ rest) (same_bytes first second p.1))

-- what the version says
record VersionTakes (bytes : List ℕ) (x : Version × List ℕ) : Type 0 where
  takes : Takes bytes (version_bytes x.0) x.1
  stated : CanState x.0

third_takes : (bytes : List ℕ) (x : Version × List ℕ) → AreBytes bytes → third_at bytes ≡ Ok x → VersionTakes (codes "RVIOMMU3" ++ bytes) x
unfolding third_at
third_takes bytes x are is =
    let a = bind_ok (number_at 8 bytes) (λ word. checked (is_third_word word.0) BadCapabilities (Ok (Third (third_features word.0), word.1))) x is in
    let features = third_features a.0.0 in
    let right = check_ok (is_third_word a.0.0) BadCapabilities (Ok (Third features, a.0.1)) x a.2 in
    let word = number_takes 8 bytes a.0 are a.1 in
    let back = third_is a.0.0 right.0 in
    let made : Version × List ℕ = (Third features, a.0.1) in
    subst (VersionTakes (codes "RVIOMMU3" ++ bytes)) {x = made} (ok_is made x right.1) (record {
      takes = record {
        parts = ap (λ rest. codes "RVIOMMU3" ++ rest) word.parts ∙ sym (append_assoc (codes "RVIOMMU3") (bytes_of_number 8 a.0.0) a.0.1)
            ∙ ap (λ n. (codes "RVIOMMU3" ++ bytes_of_number 8 n) ++ a.0.1) (sym back.same);
        left = word.left;
      };
      stated = back.stated;
    })

-- what the words of a window say
record WindowTakes (follows : Bool) (bytes : List ℕ) (x : Option Window × List ℕ) : Type 0 where
  takes : Takes bytes (window_bytes x.0) x.1
  good : is_window x.0 ≡ true
  bit : window_bit x.0 ≡ (if follows then 2 ^ 8 else 0)

window_takes : (follows : Bool) (bytes : List ℕ) (x : Option Window × List ℕ) → AreBytes bytes → window_at follows bytes ≡ Ok x → WindowTakes follows bytes x
unfolding window_at
window_takes false bytes x are is =
    let made : Option Window × List ℕ = (None, bytes) in
    subst (WindowTakes false bytes) {x = made} (ok_is made x is) (record { takes = record { parts = refl; left = are }; good = refl; bit = refl })
window_takes true bytes x are is =
    let a = bind_ok (number_at 8 bytes) (λ base. number_at 8 base.1 >>= λ size.
    checked (is_lendable base.0 size.0) BadWindow (Ok (Some (record { base = base.0; size = size.0 }), size.1))) x is in
    let b = bind_ok (number_at 8 a.0.1) (λ size.
    checked (is_lendable a.0.0 size.0) BadWindow (Ok (Some (record { base = a.0.0; size = size.0 }), size.1))) x a.2 in
    let made : Option Window × List ℕ = (Some (record { base = a.0.0; size = b.0.0 }), b.0.1) in
    let right = check_ok (is_lendable a.0.0 b.0.0) BadWindow (Ok made) x b.2 in
    let first = number_takes 8 bytes a.0 are a.1 in
    let second = number_takes 8 a.0.1 b.0 first.left b.1 in
    subst (WindowTakes true bytes) {x = made} (ok_is made x right.1)
    (record { takes = then_takes bytes (bytes_of_number 8 a.0.0) a.0.1 (bytes_of_number 8 b.0.0) b.0.1 first second; good = right.0; bit = refl })

-- the version 4 that two words state
abbrev behind_choices : Features → Bool → List ℕ → Result (Version × List ℕ) LoadFault
behind_choices features follows bytes = window_at follows bytes >>= λ window. Ok (Fourth features window.0, window.1)

abbrev behind_words : ℕ × List ℕ → ℕ × List ℕ → Result (Version × List ℕ) LoadFault
behind_words one other =
    checked (are_words one.0 other.0) BadCapabilities (behind_choices (features_in one.0 other.0) (has_window other.0) other.1)

fourth_parts : (bytes last rest : List ℕ) (one other register choices : ℕ) → bytes ≡ (bytes_of_number 8 one ++ (bytes_of_number 8 other ++ last)) ++ rest →
    register ≡ one → choices ≡ other →
    codes "RVIOMMU4" ++ bytes ≡ (codes "RVIOMMU4" ++ (bytes_of_number 8 register ++ (bytes_of_number 8 choices ++ last))) ++ rest
fourth_parts bytes last rest one other register choices parts first second =
    rw (first, second, parts) (sym (append_assoc (codes "RVIOMMU4") (bytes_of_number 8 one ++ (bytes_of_number 8 other ++ last)) rest))

fourth_takes : (bytes : List ℕ) (x : Version × List ℕ) → AreBytes bytes → fourth_at bytes ≡ Ok x → VersionTakes (codes "RVIOMMU4" ++ bytes) x
unfolding fourth_at
fourth_takes bytes x are is =
    let a = bind_ok (number_at 8 bytes) (λ one. number_at 8 one.1 >>= λ other. behind_words one other) x is in
    let one = a.0.0 in
    let b = bind_ok (number_at 8 a.0.1) (λ other. behind_words a.0 other) x a.2 in
    let other = b.0.0 in
    let features = features_in one other in
    let right = check_ok (are_words one other) BadCapabilities (behind_choices features (has_window other) b.0.1) x b.2 in
    let w = bind_ok (window_at (has_window other) b.0.1) (λ window. Ok (Fourth features window.0, window.1)) x right.1 in
    let window = w.0.0 in
    let rest = w.0.1 in
    let first = number_takes 8 bytes a.0 are a.1 in
    let second = number_takes 8 a.0.1 b.0 first.left b.1 in
    let third = window_takes (has_window other) b.0.1 w.0 second.left w.1 in
    let last = window_bytes window in
    let two = then_takes a.0.1 (bytes_of_number 8 other) b.0.1 last rest second third.takes in
    let all = then_takes bytes (bytes_of_number 8 one) a.0.1 (bytes_of_number 8 other ++ last) rest first two in
    let back = words_back one other right.0 in
    let choices : choices_of features + window_bit window ≡ other =
    ap (λ n. n + window_bit window) back.others ∙ choices_whole other (has_window other) window back.few refl third.bit in
    let made : Version × List ℕ = (Fourth features window, rest) in
    subst (VersionTakes (codes "RVIOMMU4" ++ bytes)) {x = made} (ok_is made x w.2) (record {
      takes = record {
        parts = fourth_parts bytes last rest one other (capabilities_of features) (choices_of features + window_bit window) all.parts back.register choices;
        left = all.left;
      };
      stated = (back.offer, third.good);
    })

-- the version that eight bytes name, and what stands behind it
named_takes : (magic bytes : List ℕ) (first second third fourth : Bool) (x : Version × List ℕ) → AreBytes bytes →
    bytes_eq magic (codes "RVIOMMU1") ≡ first → bytes_eq magic (codes "RVIOMMU2") ≡ second → bytes_eq magic (codes "RVIOMMU3") ≡ third →
    bytes_eq magic (codes "RVIOMMU4") ≡ fourth →
    (if first then good (First, bytes) else if second then good (Second, bytes) else if third then third_at bytes else if fourth then fourth_at bytes else Err BadMagic)
    ≡ Ok x → VersionTakes (magic ++ bytes) x
named_takes magic bytes true second third fourth x are p q r s is =
    let made : Version × List ℕ = (First, bytes) in
    subst (VersionTakes (magic ++ bytes)) {x = made} (ok_is made x is)
    (record { takes = record { parts = ap (λ text. text ++ bytes) (same_bytes magic (codes "RVIOMMU1") p); left = are }; stated = tt })
named_takes magic bytes false true third fourth x are p q r s is =
    let made : Version × List ℕ = (Second, bytes) in
    subst (VersionTakes (magic ++ bytes)) {x = made} (ok_is made x is)
    (record { takes = record { parts = ap (λ text. text ++ bytes) (same_bytes magic (codes "RVIOMMU2") q); left = are }; stated = tt })
named_takes magic bytes false false true fourth x are p q r s is = rw (same_bytes magic (codes "RVIOMMU3") r) (third_takes bytes x are is)
named_takes magic bytes false false false true x are p q r s is = rw (same_bytes magic (codes "RVIOMMU4") s) (fourth_takes bytes x are is)
named_takes magic bytes false false false false x are p q r s is = absurd cc

version_takes : (bytes : List ℕ) (x : Version × List ℕ) → AreBytes bytes → version_at bytes ≡ Ok x → VersionTakes bytes x
unfolding version_at version_of
version_takes bytes x are is =
    let a = bind_ok (part_at 8 bytes) (λ magic. version_of magic.0 magic.1) x is in
    let part = part_takes 8 bytes a.0 are a.1 in
    rw part.0.parts
    (named_takes a.0.0 a.0.1 (bytes_eq a.0.0 (codes "RVIOMMU1")) (bytes_eq a.0.0 (codes "RVIOMMU2")) (bytes_eq a.0.0 (codes "RVIOMMU3"))
    (bytes_eq a.0.0 (codes "RVIOMMU4")) x part.0.left refl refl refl refl a.2)

head_ends : (bytes : List ℕ) (version : Version × List ℕ) (base size chunks disks : ℕ × List ℕ) (x : Head × List ℕ) →
    VersionTakes bytes version → Takes version.1 (bytes_of_number 8 base.0) base.1 → Takes base.1 (bytes_of_number 8 size.0) size.1 →
    Takes size.1 (bytes_of_number 4 chunks.0) chunks.1 → Takes chunks.1 (bytes_of_number 4 disks.0) disks.1 →
    checked (is_paged base.0 && is_good_size base.0 size.0) BadRam (checked (is_beside (window_of version.0) base.0 size.0) BadWindow
    (checked (nat_le disks.0 8) BadDevice
    (Ok (record { version = version.0; base = base.0; size = size.0; chunks = chunks.0; disks = disks.0 }, disks.1)))) ≡ Ok x → HeadTakes bytes x
head_ends bytes version base size chunks disks x t0 t1 t2 t3 t4 is =
    let made : Head × List ℕ = (record { version = version.0; base = base.0; size = size.0; chunks = chunks.0; disks = disks.0 }, disks.1) in
    let few = checked (nat_le disks.0 8) BadDevice (good made) in
    let ram = check_ok (is_paged base.0 && is_good_size base.0 size.0) BadRam (checked (is_beside (window_of version.0) base.0 size.0) BadWindow few) x is in
    let beside = check_ok (is_beside (window_of version.0) base.0 size.0) BadWindow few x ram.1 in
    let number = check_ok (nat_le disks.0 8) BadDevice (Ok made) x beside.1 in
    let p = and_parts (is_paged base.0) (is_good_size base.0 size.0) ram.0 in
    let c = bytes_of_number 4 chunks.0 in
    let d = bytes_of_number 4 disks.0 in
    let s = bytes_of_number 8 size.0 in
    let b = bytes_of_number 8 base.0 in
    let cd = then_takes size.1 c chunks.1 d disks.1 t3 t4 in
    let scd = then_takes base.1 s size.1 (c ++ d) disks.1 t2 cd in
    let bscd = then_takes version.1 b base.1 (s ++ (c ++ d)) disks.1 t1 scd in
    let all = then_takes bytes (version_bytes version.0) version.1 (b ++ (s ++ (c ++ d))) disks.1 t0.takes bscd in
    subst (HeadTakes bytes) {x = made} (ok_is made x number.1)
    (record { takes = all; base = p.0; size = p.1; few = leb-true disks.0 8 number.0; stated = t0.stated; beside = beside.0 })

abbrev behind_disks : Version → ℕ × List ℕ → ℕ × List ℕ → ℕ × List ℕ → ℕ × List ℕ → Result (Head × List ℕ) LoadFault
behind_disks version base size chunks disks =
    checked (is_paged base.0 && is_good_size base.0 size.0) BadRam (checked (is_beside (window_of version) base.0 size.0) BadWindow
    (checked (nat_le disks.0 8) BadDevice
    (Ok (record { version = version; base = base.0; size = size.0; chunks = chunks.0; disks = disks.0 }, disks.1))))

abbrev behind_version : Version × List ℕ → Result (Head × List ℕ) LoadFault
behind_version version =
    number_at 8 version.1 >>= λ base. number_at 8 base.1 >>= λ size. number_at 4 size.1 >>= λ chunks. number_at 4 chunks.1 >>= λ disks.
    behind_disks version.0 base size chunks disks

head_takes : (bytes : List ℕ) (x : Head × List ℕ) → AreBytes bytes → head_at bytes ≡ Ok x → HeadTakes bytes x
unfolding head_at
head_takes bytes x are is =
    let v = bind_ok (version_at bytes) (λ version. behind_version version) x is in
    let version = v.0 in
    let a = bind_ok (number_at 8 version.1) (λ base. number_at 8 base.1 >>= λ size. number_at 4 size.1 >>= λ chunks. number_at 4 chunks.1 >>= λ disks.
    behind_disks version.0 base size chunks disks) x v.2 in
    let base = a.0 in
    let b = bind_ok (number_at 8 base.1) (λ size. number_at 4 size.1 >>= λ chunks. number_at 4 chunks.1 >>= λ disks.
    behind_disks version.0 base size chunks disks) x a.2 in
    let size = b.0 in
    let c = bind_ok (number_at 4 size.1) (λ chunks. number_at 4 chunks.1 >>= λ disks. behind_disks version.0 base size chunks disks) x b.2 in
    let chunks = c.0 in
    let d = bind_ok (number_at 4 chunks.1) (λ disks. behind_disks version.0 base size chunks disks) x c.2 in
    let t0 = version_takes bytes version are v.1 in
    let t1 = number_takes 8 version.1 base t0.takes.left a.1 in
    let t2 = number_takes 8 base.1 size t1.left b.1 in
    let t3 = number_takes 4 size.1 chunks t2.left c.1 in
    let t4 = number_takes 4 chunks.1 d.0 t3.left d.1 in
    head_ends bytes version base size chunks d.0 x t0 t1 t2 t3 t4 d.2

-- all of the bytes
whole : (bytes : List ℕ) (head : Head × List ℕ) (chunks : List Chunk × List ℕ) (disks : List Disk × List ℕ) → HeadTakes bytes head →
    Takes head.1 (chunks_bytes chunks.0) chunks.1 → length chunks.0 ≡ head.0.chunks → AreChunks head.0.base head.0.size 0 chunks.0 →
    Takes chunks.1 (disks_bytes (is_flagged head.0.version) disks.0) disks.1 → length disks.0 ≡ head.0.disks → AreDisks (is_flagged head.0.version) [] disks.0 → disks.1 ≡ [] →
    IsImageOf (record { version = head.0.version; base = head.0.base; size = head.0.size; chunks = chunks.0; disks = disks.0 }) bytes
unfolding image_bytes
whole bytes head chunks disks first second some good third few distinct none =
    let rest = then_takes head.1 (chunks_bytes chunks.0) chunks.1 (disks_bytes (is_flagged head.0.version) disks.0) disks.1 second third in
    let all = then_takes bytes (head_bytes head.0.version head.0.base head.0.size head.0.chunks head.0.disks) head.1 (chunks_bytes chunks.0 ++ disks_bytes (is_flagged head.0.version) disks.0) disks.1 first.takes rest in
    record {
      good = record { base = first.base; size = first.size; chunks = good; few = omega (arith, few, first.few); disks = distinct; stated = first.stated; beside = first.beside };
      are = all.parts ∙ ap (λ rest. (head_bytes head.0.version head.0.base head.0.size head.0.chunks head.0.disks ++ (chunks_bytes chunks.0 ++ disks_bytes (is_flagged head.0.version) disks.0)) ++ rest) none
          ∙ append-nil (head_bytes head.0.version head.0.base head.0.size head.0.chunks head.0.disks ++ (chunks_bytes chunks.0 ++ disks_bytes (is_flagged head.0.version) disks.0))
          ∙ ap (λ n. head_bytes head.0.version head.0.base head.0.size n head.0.disks ++ (chunks_bytes chunks.0 ++ disks_bytes (is_flagged head.0.version) disks.0)) (sym some)
          ∙ ap (λ n. head_bytes head.0.version head.0.base head.0.size (length chunks.0) n ++ (chunks_bytes chunks.0 ++ disks_bytes (is_flagged head.0.version) disks.0)) (sym few);
    }

pub read_is : (bytes : List ℕ) (image : Image) → AreBytes bytes → image_of bytes ≡ Ok image → IsImageOf image bytes
unfolding image_of
read_is bytes image are is =
    let a = bind_ok (head_at bytes) (λ head. chunks_at head.0.base head.0.size 0 head.0.chunks head.1 >>= λ chunks. disks_at (is_flagged head.0.version) [] head.0.disks chunks.1 >>= λ disks.
    checked (length disks.1 == 0) Trailing (Ok (record { version = head.0.version; base = head.0.base; size = head.0.size; chunks = chunks.0; disks = disks.0 }))) image is in
    let head = a.0 in
    let b = bind_ok (chunks_at head.0.base head.0.size 0 head.0.chunks head.1) (λ chunks. disks_at (is_flagged head.0.version) [] head.0.disks chunks.1 >>= λ disks.
    checked (length disks.1 == 0) Trailing (Ok (record { version = head.0.version; base = head.0.base; size = head.0.size; chunks = chunks.0; disks = disks.0 }))) image a.2 in
    let chunks = b.0 in
    let c = bind_ok (disks_at (is_flagged head.0.version) [] head.0.disks chunks.1) (λ disks.
    checked (length disks.1 == 0) Trailing (Ok (record { version = head.0.version; base = head.0.base; size = head.0.size; chunks = chunks.0; disks = disks.0 }))) image b.2 in
    let disks = c.0 in
    let made : Image = record { version = head.0.version; base = head.0.base; size = head.0.size; chunks = chunks.0; disks = disks.0 } in
    let last = check_ok (length disks.1 == 0) Trailing (Ok made) image c.2 in
    let first = head_takes bytes head are a.1 in
    let second = chunks_take head.0.base head.0.size 0 head.0.chunks head.1 chunks first.takes.left b.1 in
    let third = disks_take (is_flagged head.0.version) [] head.0.disks chunks.1 disks second.0.left c.1 in
    subst (λ (image : Image). IsImageOf image bytes) {x = made} (ok_is made image last.1)
    (whole bytes head chunks disks first second.0 second.1 second.2 third.0 third.1 third.2 (nil_from_length disks.1 (eqb-true (length disks.1) 0 last.0)))

pub reads_images : (bytes : List ℕ) (image : Image) → AreBytes bytes → (image_of bytes ≡ Ok image) ↔ IsImageOf image bytes
reads_images bytes image are = (read_is bytes image are, λ is. ap image_of is.are ∙ read_again image is.good)
