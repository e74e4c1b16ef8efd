-- Words of whole bytes, read as a list behind its number: the bytes again.
use Rattle.std.proofs.Common.{◌≡◌, ◌<◌, ◌≤◌, ◌+◌, ◌*◌, ◌/◌, ◌%◌, ◌^◌, ◌++◌, ◌∙◌, ℕ, true, None, List, ◌∷◌, length, refl, sym, ap, arith}
use Rattle.iom_mem.specs.Lent.{memory_of}
use Rattle.iom_mem.specs.Memory.{Memory, size_of}
use Rattle.iom_mem.specs.Sizes.{is_good_size, is_paged, refusal_of}
use Rattle.iom_mem.specs.Words.{bytes_of_words}
use Rattle.iom_saved.specs.Bytes.{words_in, words_of_bytes}
use Rattle.iom_saved.specs.Kept.{IsMemory}
use Rattle.iom_saved.specs.Whole.{IsWhole}
use Rattle.iom_saved.proofs.Bytes.{whole_back}
use Rattle.iom_saved.proofs.Tells.{length_words}

-- the words in bytes
abbrev pub in_words : List ℕ → List ℕ
in_words bytes = words_in (length bytes / 8) bytes

pub bytes_again : (bytes : List ℕ) → IsWhole bytes → bytes_of_words (in_words bytes) ≡ bytes
bytes_again bytes is = whole_back (length bytes / 8) bytes (omega (arith, is.whole)) is.small

pub as_list : (bytes rest : List ℕ) → words_of_bytes bytes ++ rest ≡ length (in_words bytes) ∷ (in_words bytes ++ rest)
as_list bytes rest = ap (λ (n : ℕ). n ∷ (in_words bytes ++ rest)) (sym (length_words (length bytes / 8) bytes))

accepted : (base size : ℕ) → base % 4096 ≡ 0 → 0 < size → size % 4096 ≡ 0 → size ≤ 2 ^ 26 → base + size ≤ 2 ^ 56 → refusal_of base size ≡ None
accepted base size first some whole most end =
    let paged : is_paged base ≡ true = grind arith in
    let good : is_good_size base size ≡ true = grind arith in rw (paged, good) refl

pub legal_again : (m : Memory) → IsMemory m → refusal_of m.base (8 * length (in_words m.bytes)) ≡ None
legal_again m is =
    let size : 8 * length (in_words m.bytes) ≡ size_of m = ap (λ (n : ℕ). 8 * n) (length_words (length m.bytes / 8) m.bytes) ∙ omega (arith, is.whole.whole) in
    ap (λ (n : ℕ). refusal_of m.base n) size
    ∙ accepted m.base (size_of m) is.legal.base_paged is.legal.some is.legal.size_paged is.legal.size_bound is.legal.end_bound

pub memory_again : (m : Memory) → IsMemory m → memory_of m.base (in_words m.bytes) ≡ m
memory_again m is = ap (λ (bytes : List ℕ). record { base = m.base; bytes = bytes }) (bytes_again m.bytes is.whole)
