-- What a write changes of memory.
use Rattle.std.proofs.Common.{◌≡◌, ◌+◌, ◌-◌, ◌<◌, ◌≤◌, ◌∙◌, ℕ, zero, suc, List, [], ◌∷◌, ◌++◌, length, take, drop, Bool, true, false, None, refl, sym, ap, subst, inl, inr, arith}
use Rattle.std.specs.Prelude.{slice_get, nat_le, if◌then◌else◌, is_some}
use Rattle.std.proofs.lemmas.Bool.{cases_lt}
use Rattle.std.proofs.lemmas.Grind.{common_steps}
use Rattle.iom_mem.specs.Memory.{Memory, byte, bytes_at, put}
use Rattle.iom_mem.proofs.Bytes.{bytes_at_below, bytes_at_past}
use Rattle.iom_signals.specs.Changes.{ChangesOnly, IsOutside, Span}

get_kept : (n : ℕ) (xs ys : List ℕ) (i : ℕ) → i < n → n ≤ length xs → slice_get (take n xs ++ ys) i ≡ slice_get xs i
get_kept zero xs ys i low inside = absurd (omega arith)
get_kept (suc n) [] ys i low inside = absurd (omega arith)
get_kept (suc n) (x ∷ xs) ys zero low inside = refl
get_kept (suc n) (x ∷ xs) ys (suc i) low inside = get_kept n xs ys i (omega arith) (omega arith)

get_after : (n : ℕ) (xs ys : List ℕ) (i j : ℕ) → i ≡ n + j → n ≤ length xs → slice_get (take n xs ++ ys) i ≡ slice_get ys j
get_after zero xs ys i j is inside = let e : i ≡ j = omega arith in ap (slice_get ys) e
get_after (suc n) [] ys i j is inside = absurd (omega arith)
get_after (suc n) (x ∷ xs) ys zero j is inside = absurd (omega arith)
get_after (suc n) (x ∷ xs) ys (suc i) j is inside = get_after n xs ys i j (omega arith) (omega arith)

get_behind : (ys zs : List ℕ) (i j : ℕ) → i ≡ length ys + j → slice_get (ys ++ zs) i ≡ slice_get zs j
get_behind [] zs i j is = let e : i ≡ j = omega arith in ap (slice_get zs) e
get_behind (y ∷ ys) zs zero j is = absurd (omega arith)
get_behind (y ∷ ys) zs (suc i) j is = get_behind ys zs i j (omega arith)

get_dropped : (n : ℕ) (xs : List ℕ) (i j : ℕ) → i ≡ n + j → slice_get (drop n xs) j ≡ slice_get xs i
get_dropped zero xs i j is = let e : j ≡ i = omega arith in ap (slice_get xs) e
get_dropped (suc n) [] i j is = refl
get_dropped (suc n) (x ∷ xs) zero j is = absurd (omega arith)
get_dropped (suc n) (x ∷ xs) (suc i) j is = get_dropped n xs i j (omega arith)

-- the byte at an address that isn't below memory
byte_from : (m : Memory) (a : ℕ) → m.base ≤ a → byte m a ≡ slice_get m.bytes (a - m.base)
byte_from m a from =
    let is : nat_le m.base a ≡ true = grind arith in
    ap (λ (b : Bool). if b then slice_get m.bytes (a - m.base) else None) is

byte_under : (m : Memory) (a : ℕ) → a < m.base → byte m a ≡ None
byte_under m a under =
    let is : nat_le m.base a ≡ false = grind arith in
    ap (λ (b : Bool). if b then slice_get m.bytes (a - m.base) else None) is

put_below : (m : Memory) (addr : ℕ) (bytes : List ℕ) → m.base ≤ addr → addr + length bytes ≤ m.base + length m.bytes →
    (a : ℕ) → a < addr → byte (put m addr bytes) a ≡ byte m a
put_below m addr bytes from inside a low = elim (cases_lt a m.base) [
  | inl under ↦ byte_under (put m addr bytes) a under ∙ sym (byte_under m a under)
  | inr above ↦
      byte_from (put m addr bytes) a above
      ∙ get_kept (addr - m.base) m.bytes (bytes ++ drop (addr - m.base + length bytes) m.bytes) (a - m.base) (omega arith) (omega arith)
      ∙ sym (byte_from m a above)
]

put_above : (m : Memory) (addr : ℕ) (bytes : List ℕ) → m.base ≤ addr → addr + length bytes ≤ m.base + length m.bytes →
    (a : ℕ) → addr + length bytes ≤ a → byte (put m addr bytes) a ≡ byte m a
put_above m addr bytes from inside a high =
    let k = addr - m.base in
    let j = a - m.base - (k + length bytes) in
    let above : m.base ≤ a = omega arith in
    byte_from (put m addr bytes) a above
    ∙ get_after k m.bytes (bytes ++ drop (k + length bytes) m.bytes) (a - m.base) (length bytes + j) (omega arith) (omega arith)
    ∙ get_behind bytes (drop (k + length bytes) m.bytes) (length bytes + j) j refl
    ∙ get_dropped (k + length bytes) m.bytes (a - m.base) j (omega arith)
    ∙ sym (byte_from m a above)

-- bytes of which each is in memory
some_inside : (m : Memory) (addr count : ℕ) → 0 < count → is_some (bytes_at m addr count) ≡ true →
    (m.base ≤ addr) × (addr + count ≤ m.base + length m.bytes)
some_inside m addr count some there = elim (cases_lt addr m.base) [
  | inl under ↦ let none : bytes_at m addr count ≡ None = bytes_at_below m addr count under some in
      let no : is_some (bytes_at m addr count) ≡ false = ap is_some none in absurd (cc)
  | inr from ↦ elim (cases_lt (m.base + length m.bytes) (addr + count)) [
    | inl past ↦ let none : bytes_at m addr count ≡ None = bytes_at_past m addr count past some in
        let no : is_some (bytes_at m addr count) ≡ false = ap is_some none in absurd (cc)
    | inr inside ↦ (from, inside)
  ]
]

put_nothing : (n : ℕ) (xs : List ℕ) → take n xs ++ drop n xs ≡ xs
put_nothing zero xs = refl
put_nothing (suc n) [] = refl
put_nothing (suc n) (x ∷ xs) = ap (λ rest. x ∷ rest) (put_nothing n xs)

pub same_memory : (m : Memory) (spans : List Span) → ChangesOnly spans m m
same_memory m spans = record { base = refl; size = refl; others = λ a out. refl }

pub put_changes_only : (m : Memory) (addr : ℕ) (bytes : List ℕ) → is_some (bytes_at m addr (length bytes)) ≡ true →
    ChangesOnly (record { addr = addr; count = length bytes } ∷ []) m (put m addr bytes)
put_changes_only m addr [] there =
    let k = addr - m.base in
    let e : k + 0 ≡ k = omega arith in
    let bytes : (put m addr []).bytes ≡ m.bytes = ap (λ (n : ℕ). take k m.bytes ++ drop n m.bytes) e ∙ put_nothing k m.bytes in
    subst (λ (bs : List ℕ). ChangesOnly (record { addr = addr; count = 0 } ∷ []) m (record m { bytes = bs })) (sym bytes)
    (same_memory m (record { addr = addr; count = 0 } ∷ []))
put_changes_only m addr (first ∷ more) there =
    let bounds = some_inside m addr (length (first ∷ more)) (omega arith) there in
    let from = bounds.0 in
    let inside = bounds.1 in
    record {
      base = refl;
      size = grind (arith, common_steps);
      others = λ a out. elim out.0 as (λ _. byte (put m addr (first ∷ more)) a ≡ byte m a) [
        | inl low ↦ put_below m addr (first ∷ more) from inside a low
        | inr high ↦ put_above m addr (first ∷ more) from inside a high
      ];
    }

-- one change after the other
pub changes_both : (spans : List Span) (first second third : Memory) → ChangesOnly spans first second → ChangesOnly spans second third → ChangesOnly spans first third
changes_both spans first second third one other = record {
  base = other.base ∙ one.base;
  size = other.size ∙ one.size;
  others = λ a out. other.others a out ∙ one.others a out;
}

-- a change of less is one of more
pub changes_wider : (spans wide : List Span) (old new : Memory) → ((a : ℕ) → IsOutside wide a → IsOutside spans a) → ChangesOnly spans old new → ChangesOnly wide old new
changes_wider spans wide old new wider changes = record {
  base = changes.base;
  size = changes.size;
  others = λ a out. changes.others a (wider a out);
}

pub outside_first : (spans more : List Span) (a : ℕ) → IsOutside (spans ++ more) a → IsOutside spans a
outside_first [] more a out = tt
outside_first (span ∷ spans) more a out = (out.0, outside_first spans more a out.1)

pub outside_second : (spans more : List Span) (a : ℕ) → IsOutside (spans ++ more) a → IsOutside more a
outside_second [] more a out = out
outside_second (span ∷ spans) more a out = outside_second spans more a out.1

pub outside_both : (spans more : List Span) (a : ℕ) → IsOutside spans a → IsOutside more a → IsOutside (spans ++ more) a
outside_both [] more a one other = other
outside_both (span ∷ spans) more a one other = (one.0, outside_both spans more a one.1 other)
