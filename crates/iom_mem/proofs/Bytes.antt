-- Bytes of memory from an address on: all inside, or one outside.
use Rattle.std.proofs.Common.{◌≡◌, ◌+◌, ◌-◌, ◌<◌, ◌≤◌, ℕ, zero, suc, List, [], ◌∷◌, length, take, drop, get_or, Option, Some, None, Bool, false, nat_eq, sym, ◌∙◌, ap, refl, inl, inr, arith}
use Rattle.std.specs.Prelude.{slice_get}
use Rattle.std.specs.Bool.{OnTrue}
use Rattle.std.specs.Option.{is_some}
use Rattle.std.proofs.lemmas.List.{drop_more}
use Rattle.std.proofs.lemmas.Bool.{cases_lt}
use Rattle.iom_mem.specs.Memory.{Memory, byte, before, bytes_at}

pub slice_get_inside : (xs : List ℕ) (i : ℕ) → i < length xs → slice_get xs i ≡ Some (get_or xs i 0)
slice_get_inside [] i h = absurd (omega arith)
slice_get_inside (x ∷ xs) zero h = refl
slice_get_inside (x ∷ xs) (suc i) h = slice_get_inside xs i (omega arith)

pub slice_get_past : (xs : List ℕ) (i : ℕ) → length xs ≤ i → slice_get xs i ≡ None
slice_get_past [] i h = refl
slice_get_past (x ∷ xs) zero h = absurd (omega arith)
slice_get_past (x ∷ xs) (suc i) h = slice_get_past xs i (omega arith)

pub byte_below : (memory : Memory) (addr : ℕ) → addr < memory.base → byte memory addr ≡ None
byte_below memory addr h = grind arith

pub byte_inside : (memory : Memory) (addr at : ℕ) → memory.base + at ≡ addr → at < length memory.bytes →
    byte memory addr ≡ Some (get_or memory.bytes at 0)
byte_inside memory addr at e h =
    let place : addr - memory.base ≡ at = omega arith in
    let same : slice_get memory.bytes (addr - memory.base) ≡ Some (get_or memory.bytes at 0) = rw place (slice_get_inside memory.bytes at h) in
    grind arith

pub byte_past : (memory : Memory) (addr : ℕ) → memory.base + length memory.bytes ≤ addr → byte memory addr ≡ None
byte_past memory addr h =
    let past : slice_get memory.bytes (addr - memory.base) ≡ None = slice_get_past memory.bytes (addr - memory.base) (omega arith) in
    grind arith

pub before_none : (first : Option ℕ) → before first None ≡ None
before_none (Some first) = refl
before_none None = refl

pub not_empty : (count : ℕ) → nat_eq (suc count) 0 ≡ false
not_empty count = grind arith

-- what a read and a write of `bytes` answer where no place was found: `empty` says that there are none
pub empty_read : (memory : Memory) (addr : ℕ) (bytes : List ℕ) (empty : Bool) → empty ≡ nat_eq (length bytes) 0 →
    OnTrue empty (bytes_at memory addr (length bytes) ≡ Some bytes)
unfolding bytes_at
empty_read memory addr [] empty e = rw e refl
empty_read memory addr (byte ∷ bytes) empty e = rw (e, not_empty (length bytes)) tt

pub empty_write : (memory : Memory) (addr : ℕ) (bytes : List ℕ) (empty : Bool) → empty ≡ nat_eq (length bytes) 0 →
    (0 < length bytes → bytes_at memory addr (length bytes) ≡ None) → empty ≡ is_some (bytes_at memory addr (length bytes))
unfolding bytes_at
empty_write memory addr [] empty e outside = e
empty_write memory addr (byte ∷ bytes) empty e outside = e ∙ not_empty (length bytes) ∙ sym (ap is_some (outside (omega arith)))

pub bytes_at_inside : (memory : Memory) (addr at count : ℕ) → memory.base + at ≡ addr → at + count ≤ length memory.bytes →
    bytes_at memory addr count ≡ Some (take count (drop at memory.bytes))
unfolding bytes_at
bytes_at_inside memory addr at zero e h = refl
bytes_at_inside memory addr at (suc count) e h =
    let first : byte memory addr ≡ Some (get_or memory.bytes at 0) = byte_inside memory addr at e (omega arith) in
    let rest : bytes_at memory (addr + 1) count ≡ Some (take count (drop (at + 1) memory.bytes)) =
    bytes_at_inside memory (addr + 1) (at + 1) count (omega arith) (omega arith) in
    rw (first, rest, drop_more memory.bytes at 0 (omega arith)) refl

pub bytes_at_below : (memory : Memory) (addr count : ℕ) → addr < memory.base → 0 < count → bytes_at memory addr count ≡ None
unfolding bytes_at
bytes_at_below memory addr zero h some = absurd (omega arith)
bytes_at_below memory addr (suc count) h some = ap (λ b. before b (bytes_at memory (addr + 1) count)) (byte_below memory addr h)

pub bytes_at_past : (memory : Memory) (addr count : ℕ) → memory.base + length memory.bytes < addr + count → 0 < count →
    bytes_at memory addr count ≡ None
unfolding bytes_at
bytes_at_past memory addr zero h some = absurd (omega arith)
bytes_at_past memory addr (suc count) h some =
    elim (cases_lt addr (memory.base + length memory.bytes)) as (λ _. before (byte memory addr) (bytes_at memory (addr + 1) count) ≡ None) [
      | inl near ↦ ap (before (byte memory addr)) (bytes_at_past memory (addr + 1) count (omega arith) (omega arith)) ∙ before_none (byte memory addr)
      | inr past ↦ ap (λ b. before b (bytes_at memory (addr + 1) count)) (byte_past memory addr past)
    ]
