-- Several words from an address on: all inside, or a byte of one outside.
use Rattle.std.proofs.Common.{◌≡◌, ◌+◌, ◌*◌, ◌<◌, ◌≤◌, ◌⊎◌, ℕ, zero, suc, List, [], ◌∷◌, length, take, drop, Some, None, Bool, nat_eq, sym, ◌∙◌, ap, refl, inl, inr, arith}
use Rattle.std.specs.Bool.{OnFalse}
use Rattle.std.specs.Option.{option_map}
use Rattle.std.proofs.lemmas.Bool.{cases_lt}
use Rattle.iom_bits.specs.Bytes.{number_of_bytes}
use Rattle.iom_mem.specs.Memory.{Memory, before, word, words_at}
use Rattle.iom_mem.specs.Words.{AreWords}
use Rattle.iom_mem.proofs.Bytes.{bytes_at_inside, bytes_at_below, bytes_at_past, before_none, not_empty}

pub words_at_inside : (memory : Memory) (addr at : ℕ) (words : List ℕ) → memory.base + at ≡ addr → at + 8 * length words ≤ length memory.bytes →
    AreWords words memory.bytes at (length words) → words_at memory addr (length words) ≡ Some words
words_at_inside memory addr at [] e room each = refl
words_at_inside memory addr at (first ∷ words) e room each =
    let start : at + 0 ≡ at = omega arith in
    let own : word memory addr ≡ Some first =
    ap (option_map number_of_bytes) (bytes_at_inside memory addr at 8 e (omega arith))
    ∙ ap (λ n. Some n) (sym (each 0 (omega arith) ∙ ap (λ p. number_of_bytes (take 8 (drop p memory.bytes))) start)) in
    let rest : words_at memory (addr + 8) (length words) ≡ Some words =
    words_at_inside memory (addr + 8) (at + 8) words (omega arith) (omega arith) (λ i h.
    let place : at + 8 * suc i ≡ at + 8 + 8 * i = omega arith in
    each (suc i) (omega arith) ∙ ap (λ p. number_of_bytes (take 8 (drop p memory.bytes))) place) in
    ap (λ w. before w (words_at memory (addr + 8) (length words))) own ∙ ap (before (Some first)) rest

words_at_below : (memory : Memory) (addr count : ℕ) → addr < memory.base → 0 < count → words_at memory addr count ≡ None
words_at_below memory addr zero h some = absurd (omega arith)
words_at_below memory addr (suc count) h some =
    ap (λ b. before (option_map number_of_bytes b) (words_at memory (addr + 8) count)) (bytes_at_below memory addr 8 h (omega arith))

words_at_past : (memory : Memory) (addr count : ℕ) → memory.base + length memory.bytes < addr + 8 * count → 0 < count →
    words_at memory addr count ≡ None
words_at_past memory addr zero h some = absurd (omega arith)
words_at_past memory addr (suc count) h some =
    elim (cases_lt (memory.base + length memory.bytes) (addr + 8)) as (λ _. before (word memory addr) (words_at memory (addr + 8) count) ≡ None) [
      | inl past ↦ ap (λ b. before (option_map number_of_bytes b) (words_at memory (addr + 8) count)) (bytes_at_past memory addr 8 past (omega arith))
      | inr near ↦ ap (before (word memory addr)) (words_at_past memory (addr + 8) count (omega arith) (omega arith)) ∙ before_none (word memory addr)
    ]

-- what a read of words answers where no place was found: `empty` says that there are none
pub words_at_outside : (memory : Memory) (addr count : ℕ) (empty : Bool) → empty ≡ nat_eq count 0 →
    (addr < memory.base) ⊎ (memory.base + length memory.bytes < addr + 8 * count) → OnFalse empty (words_at memory addr count ≡ None)
words_at_outside memory addr zero empty e outside = rw e tt
words_at_outside memory addr (suc count) empty e outside = rw (e, not_empty count) (elim outside as (λ _. words_at memory addr (suc count) ≡ None) [
  | inl below ↦ words_at_below memory addr (suc count) below (omega arith)
  | inr past ↦ words_at_past memory addr (suc count) past (omega arith)
])
