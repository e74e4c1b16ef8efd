-- Entries of directories and of page tables, and their words.
use Rattle.std.proofs.Common.{◌≡◌, ◌^◌, ◌<◌, ℕ, ◌==◌, ◌&&◌, if◌then◌else◌, Bool, true, false, Some, None, refl, ap, ◌∙◌, arith}
use Rattle.std.proofs.lemmas.Bool.{and_parts, eqb-true}
use Rattle.iom_bits.specs.Bits.{field_of}
use Rattle.iom_items.specs.Items.{IsDirEncoding, IsMsiEncoding, IsPteEncoding, PageTableEntry, dir_of, dir_word, msi_of, msi_word, pte_of, pte_word}

-- what is given under a test
pub given : {A : Type 0} (b : Bool) (x y : A) → (if b then Some x else None) ≡ Some y → (b ≡ true) × (x ≡ y)
given true x y is = (refl, cc)
given false x y is = absurd cc

-- an entry and its word
pub dir_read : (ppn : ℕ) → ppn < 2 ^ 44 → dir_of (dir_word ppn) ≡ Some ppn
dir_read ppn fits =
    let low : field_of (dir_word ppn) 0 10 ≡ 1 = omega (arith, fits) in
    let high : field_of (dir_word ppn) 54 10 ≡ 0 = omega (arith, fits) in
    let there : field_of (dir_word ppn) 10 44 ≡ ppn = omega (arith, fits) in
    rw (low, high, there) refl

dir_told : (ppn word : ℕ) → word < 2 ^ 64 → dir_of word ≡ Some ppn → IsDirEncoding ppn word
dir_told ppn word lt is =
    let kept = given (field_of word 0 10 == 1 && field_of word 54 10 == 0) (field_of word 10 44) ppn is in
    let parts = and_parts (field_of word 0 10 == 1) (field_of word 54 10 == 0) kept.0 in
    let low = eqb-true (field_of word 0 10) 1 parts.0 in
    let high = eqb-true (field_of word 54 10) 0 parts.1 in
    record { fits = omega (arith, kept.1); word_is = omega (arith, lt, low, high, kept.1) }

pub pte_read : (entry : PageTableEntry) → entry.ppn < 2 ^ 44 → entry.flags < 2 ^ 10 → pte_of (pte_word entry.ppn entry.flags) ≡ Some entry
pte_read entry ppn flags =
    let word : ℕ = pte_word entry.ppn entry.flags in
    let high : field_of word 54 10 ≡ 0 = omega (arith, ppn, flags) in
    let ppn_there : field_of word 10 44 ≡ entry.ppn = omega (arith, ppn, flags) in
    let flags_there : field_of word 0 10 ≡ entry.flags = omega (arith, ppn, flags) in
    rw (high, ppn_there, flags_there) refl

pte_told : (entry : PageTableEntry) (word : ℕ) → word < 2 ^ 64 → pte_of word ≡ Some entry → IsPteEncoding entry word
pte_told entry word lt is =
    let kept = given (field_of word 54 10 == 0) (record { ppn = field_of word 10 44; flags = field_of word 0 10 }) entry is in
    let high = eqb-true (field_of word 54 10) 0 kept.0 in
    let ppn : field_of word 10 44 ≡ entry.ppn = ap (λ entry. entry.ppn) kept.1 in
    let flags : field_of word 0 10 ≡ entry.flags = ap (λ entry. entry.flags) kept.1 in
    record { ppn_fits = omega (arith, ppn); flags_fit = omega (arith, flags); word_is = omega (arith, lt, high, ppn, flags) }

pub reads_dirs : (ppn word : ℕ) → word < 2 ^ 64 → (IsDirEncoding ppn word → dir_of word ≡ Some ppn) × (dir_of word ≡ Some ppn → IsDirEncoding ppn word)
reads_dirs ppn word lt = (λ it. ap dir_of it.word_is ∙ dir_read ppn it.fits, dir_told ppn word lt)

pub reads_ptes : (entry : PageTableEntry) (word : ℕ) → word < 2 ^ 64 →
    (IsPteEncoding entry word → pte_of word ≡ Some entry) × (pte_of word ≡ Some entry → IsPteEncoding entry word)
reads_ptes entry word lt = (λ it. ap pte_of it.word_is ∙ pte_read entry it.ppn_fits it.flags_fit, pte_told entry word lt)

pub msi_read : (ppn : ℕ) → ppn < 2 ^ 44 → msi_of (msi_word ppn) 0 ≡ Some ppn
msi_read ppn fits =
    let low : field_of (msi_word ppn) 0 10 ≡ 7 = omega (arith, fits) in
    let high : field_of (msi_word ppn) 54 10 ≡ 0 = omega (arith, fits) in
    let there : field_of (msi_word ppn) 10 44 ≡ ppn = omega (arith, fits) in
    rw (low, high, there) refl

-- the parts of the test, as `&&` binds them
pub msi_parts : (first second : ℕ) → (field_of first 0 10 == 7 && field_of first 54 10 == 0 && second == 0) ≡ true →
    (field_of first 0 10 ≡ 7) × ((field_of first 54 10 ≡ 0) × (second ≡ 0))
msi_parts first second is =
    let parts = and_parts (field_of first 0 10 == 7 && field_of first 54 10 == 0) (second == 0) is in
    let own = and_parts (field_of first 0 10 == 7) (field_of first 54 10 == 0) parts.0 in
    (eqb-true (field_of first 0 10) 7 own.0, (eqb-true (field_of first 54 10) 0 own.1, eqb-true second 0 parts.1))

msi_told : (ppn first second : ℕ) → first < 2 ^ 64 → msi_of first second ≡ Some ppn → IsMsiEncoding ppn first second
msi_told ppn first second lt is =
    let kept = given (field_of first 0 10 == 7 && field_of first 54 10 == 0 && second == 0) (field_of first 10 44) ppn is in
    let parts = msi_parts first second kept.0 in
    record { fits = omega (arith, kept.1); first_is = omega (arith, lt, parts.0, parts.1.0, kept.1); second_is = parts.1.1 }

both_read : (ppn first second : ℕ) → IsMsiEncoding ppn first second → msi_of first second ≡ Some ppn
both_read ppn first second it = rw (it.first_is, it.second_is) (msi_read ppn it.fits)

pub reads_msis : (ppn first second : ℕ) → first < 2 ^ 64 →
    (IsMsiEncoding ppn first second → msi_of first second ≡ Some ppn) × (msi_of first second ≡ Some ppn → IsMsiEncoding ppn first second)
reads_msis ppn first second lt = (both_read ppn first second, msi_told ppn first second lt)
