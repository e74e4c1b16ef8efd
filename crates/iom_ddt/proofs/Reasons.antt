-- The reasons of the directory's refusals are those of its judgement.
use Rattle.std.proofs.Common.{◌≡◌, ◌≢◌, ◌<◌, ◌+◌, ◌*◌, ◌%◌, ◌^◌, ◌==◌, ◌&&◌, ◌||◌, ℕ, Bool, true, false, not, List, [], ◌∷◌, None, Some, Ok, Err, refl, sym, arith, if◌then◌else◌}
use Rattle.std.specs.Prelude.{get_or}
use Rattle.iom_bits.specs.Bits.{has_bit, field_of, flag}
use Rattle.iom_bits.specs.declared.causes.Cause.TheVariants.{DirInvalid, DirBad}
use Rattle.iom_bits.specs.Features.{Features, sv57_bit, sv57x4_bit}
use Rattle.iom_ddt.specs.declared.context.Context.{Context}
use Rattle.iom_ddt.specs.declared.refusal.DirectoryWord.TheVariants as the
use Rattle.iom_ddt.specs.declared.refusal.Refusal.{Refusal}
use Rattle.iom_ddt.specs.declared.refusal.Refusal.TheVariants as refusal
use Rattle.iom_ddt.specs.Contexts.{has_modes, is_mode, is_msi_mode, is_well_formed}
use Rattle.iom_ddt.specs.Directory.{with_modes}
use Rattle.iom_ddt.specs.Refusals.{IsReasonOf, cause_by, first_row, msi_rows, row, stage_rows}
use Rattle.iom_ddt.specs.Words.{are_words_of, context_in, fields_in, fsc, iohgatp, msiptp, ta, tc}

-- tc, ta and fsc are the words of their own fields exactly where their other bits are 0
pub tc_is : (w : ℕ) → w < 2 ^ 64 → has_bit w 0 ≡ true → field_of w 1 3 ≡ 0 → field_of w 5 7 ≡ 0 → field_of w 12 12 ≡ 0 →
    field_of w 32 32 ≡ 0 → w ≡ 1 + 2 ^ 4 * flag (has_bit w 4) + 2 ^ 24 * field_of w 24 8
unfolding has_bit
tc_is w fits valid a b d e = grind arith

pub tc_isnt : (w : ℕ) → w ≡ 1 + 2 ^ 4 * flag (has_bit w 4) + 2 ^ 24 * field_of w 24 8 →
    (field_of w 1 3 ≡ 0) × (field_of w 5 7 ≡ 0) × (field_of w 12 12 ≡ 0) × (field_of w 32 32 ≡ 0)
unfolding has_bit
tc_isnt w is = (grind arith, grind arith, grind arith, grind arith)

pub ta_is : (w : ℕ) → w < 2 ^ 64 → field_of w 1 11 ≡ 0 → field_of w 32 32 ≡ 0 → w ≡ flag (has_bit w 0) + 2 ^ 12 * field_of w 12 20
unfolding has_bit
ta_is w fits a b = grind arith

pub ta_isnt : (w : ℕ) → w ≡ flag (has_bit w 0) + 2 ^ 12 * field_of w 12 20 → (field_of w 1 11 ≡ 0) × (field_of w 32 32 ≡ 0)
unfolding has_bit
ta_isnt w is = (grind arith, grind arith)

pub fsc_is : (w : ℕ) → w < 2 ^ 64 → field_of w 44 16 ≡ 0 → w ≡ field_of w 0 44 + 2 ^ 60 * field_of w 60 4
fsc_is w fits a = grind arith

pub fsc_isnt : (w : ℕ) → w ≡ field_of w 0 44 + 2 ^ 60 * field_of w 60 4 → field_of w 44 16 ≡ 0
fsc_isnt w is = grind arith

pub iohgatp_is : (w : ℕ) → w < 2 ^ 64 → w ≡ field_of w 0 44 + 2 ^ 44 * field_of w 44 16 + 2 ^ 60 * field_of w 60 4
iohgatp_is w fits = grind arith

-- the judgement: V = 0, other bits that aren't 0, then the stages
pub invalid : (features : Features) (words : List ℕ) → has_bit (get_or words 0 0) 0 ≡ false →
    with_modes features (context_in words) ≡ Err DirInvalid
unfolding context_in
invalid features words v = rw v refl

other_words : (features : Features) (formed same : Bool) (c : Context) → same ≡ false →
    with_modes features (if formed && same then Ok c else Err DirBad) ≡ Err DirBad
other_words features true same c isnt = rw isnt refl
other_words features false same c isnt = refl

unnamed : (features : Features) (words : List ℕ) → has_bit (get_or words 0 0) 0 ≡ true → are_words_of words (fields_in words) ≡ false →
    with_modes features (context_in words) ≡ Err DirBad
unfolding context_in
unnamed features words v other =
    rw v (other_words features (is_well_formed (fields_in words)) (are_words_of words (fields_in words)) (fields_in words) other)

same_words : (features : Features) (formed same : Bool) (c : Context) → same ≡ true →
    with_modes features (if formed && same then Ok c else Err DirBad)
    ≡ (if formed then (if has_modes features c then Ok c else Err DirBad) else Err DirBad)
same_words features true same c is = rw is refl
same_words features false same c is = refl

named : (features : Features) (words : List ℕ) → has_bit (get_or words 0 0) 0 ≡ true → are_words_of words (fields_in words) ≡ true →
    with_modes features (context_in words)
    ≡ (if is_well_formed (fields_in words) then (if has_modes features (fields_in words) then Ok (fields_in words) else Err DirBad) else Err DirBad)
unfolding context_in
named features words v same =
    rw v (same_words features (is_well_formed (fields_in words)) (are_words_of words (fields_in words)) (fields_in words) same)

-- a bit of tc, ta or fsc that must be 0
pub tc_refused : (features : Features) (words : List ℕ) → has_bit (get_or words 0 0) 0 ≡ true →
    get_or words 0 0 ≢ tc (fields_in words) → with_modes features (context_in words) ≡ Err DirBad
tc_refused features words v differs = unnamed features words v (grind (arith, differs))

pub ta_refused : (features : Features) (words : List ℕ) → has_bit (get_or words 0 0) 0 ≡ true →
    get_or words 2 0 ≢ ta (fields_in words) → with_modes features (context_in words) ≡ Err DirBad
ta_refused features words v differs = unnamed features words v (grind (arith, differs))

pub fsc_refused : (features : Features) (words : List ℕ) → has_bit (get_or words 0 0) 0 ≡ true →
    get_or words 3 0 ≢ fsc (fields_in words) → with_modes features (context_in words) ≡ Err DirBad
fsc_refused features words v differs = unnamed features words v (grind (arith, differs))

-- the words of the MSI page table: the rows of their other bits
none_of : (p q r s t : Bool) (a b c d e : Refusal) → first_row (row p a ∷ row q b ∷ row r c ∷ row s d ∷ row t e ∷ []) ≡ None →
    (p ≡ false) × (q ≡ false) × (r ≡ false) × (s ≡ false) × (t ≡ false)
none_of true q r s t a b c d e none = absurd (cc none)
none_of false true r s t a b c d e none = absurd (cc none)
none_of false false true s t a b c d e none = absurd (cc none)
none_of false false false true t a b c d e none = absurd (cc none)
none_of false false false false true a b c d e none = absurd (cc none)
none_of false false false false false a b c d e none = (refl, refl, refl, refl, refl)

pub msi_is : (pointer mask pattern last : ℕ) → pointer < 2 ^ 64 → mask < 2 ^ 64 → pattern < 2 ^ 64 → last < 2 ^ 64 →
    first_row (msi_rows pointer mask pattern last) ≡ None →
    (pointer ≡ field_of pointer 0 44 + 2 ^ 60 * flag (has_bit pointer 60)) × (mask ≡ field_of mask 0 52) × (pattern ≡ field_of pattern 0 52) × (last ≡ 0)
unfolding has_bit
msi_is pointer mask pattern last a b c d none =
    let tests = none_of (not (field_of pointer 44 16 == 0)) (not (is_msi_mode (field_of pointer 60 4))) (not (field_of mask 52 12 == 0))
    (not (field_of pattern 52 12 == 0)) (not (field_of last 0 64 == 0)) (refusal.Reserved the.Msiptp 59 44) (refusal.MsiMode (field_of pointer 60 4))
    (refusal.Reserved the.MsiAddrMask 63 52) (refusal.Reserved the.MsiAddrPattern 63 52) (refusal.Reserved the.Last 63 0) none in
    (grind (arith, tests.0, tests.1), grind (arith, tests.2), grind (arith, tests.3), grind (arith, tests.4))

all_bad : (p q r s t : Bool) (a b c d e why : Refusal) → first_row (row p a ∷ row q b ∷ row r c ∷ row s d ∷ row t e ∷ []) ≡ Some why →
    cause_by a ≡ DirBad → cause_by b ≡ DirBad → cause_by c ≡ DirBad → cause_by d ≡ DirBad → cause_by e ≡ DirBad → cause_by why ≡ DirBad
all_bad true q r s t a b c d e why some f g h i j = let same : a ≡ why = cc in rw (sym same) f
all_bad false true r s t a b c d e why some f g h i j = let same : b ≡ why = cc in rw (sym same) g
all_bad false false true s t a b c d e why some f g h i j = let same : c ≡ why = cc in rw (sym same) h
all_bad false false false true t a b c d e why some f g h i j = let same : d ≡ why = cc in rw (sym same) i
all_bad false false false false true a b c d e why some f g h i j = let same : e ≡ why = cc in rw (sym same) j
all_bad false false false false false a b c d e why some f g h i j = absurd (cc some)

one_of : (p q r s t : Bool) (a b c d e why : Refusal) → first_row (row p a ∷ row q b ∷ row r c ∷ row s d ∷ row t e ∷ []) ≡ Some why →
    (p || q || r || s || t) ≡ true
one_of true q r s t a b c d e why some = refl
one_of false true r s t a b c d e why some = refl
one_of false false true s t a b c d e why some = refl
one_of false false false true t a b c d e why some = refl
one_of false false false false true a b c d e why some = refl
one_of false false false false false a b c d e why some = absurd (cc some)

other_msi : (pointer mask pattern last : ℕ) (why : Refusal) → first_row (msi_rows pointer mask pattern last) ≡ Some why →
    pointer ≡ field_of pointer 0 44 + 2 ^ 60 * flag (has_bit pointer 60) → mask ≡ field_of mask 0 52 → pattern ≡ field_of pattern 0 52 → last ≢ 0
unfolding has_bit
other_msi pointer mask pattern last why some a b c d =
    let test = one_of (not (field_of pointer 44 16 == 0)) (not (is_msi_mode (field_of pointer 60 4))) (not (field_of mask 52 12 == 0))
    (not (field_of pattern 52 12 == 0)) (not (field_of last 0 64 == 0)) (refusal.Reserved the.Msiptp 59 44) (refusal.MsiMode (field_of pointer 60 4))
    (refusal.Reserved the.MsiAddrMask 63 52) (refusal.Reserved the.MsiAddrPattern 63 52) (refusal.Reserved the.Last 63 0) why some in
    grind (arith, test)

differ : (p q r s : Bool) (a b c d e f g : ℕ) → (a ≡ b → c ≡ d → e ≡ f → g ≢ 0) →
    (p && q && r && s && a == b && c == d && e == f && g == 0) ≡ false
differ false q r s a b c d e f g other = refl
differ true false r s a b c d e f g other = refl
differ true true false s a b c d e f g other = refl
differ true true true false a b c d e f g other = refl
differ true true true true a b c d e f g other = grind (arith, other)

msi_isnt : (words : List ℕ) (why : Refusal) → first_row (msi_rows (get_or words 4 0) (get_or words 5 0) (get_or words 6 0) (get_or words 7 0)) ≡ Some why →
    are_words_of words (fields_in words) ≡ false
msi_isnt words why some =
    let own = fields_in words in
    differ (get_or words 0 0 == tc own) (get_or words 1 0 == iohgatp own) (get_or words 2 0 == ta own) (get_or words 3 0 == fsc own)
    (get_or words 4 0) (msiptp own.msi) (get_or words 5 0) own.msi.mask (get_or words 6 0) own.msi.pattern (get_or words 7 0)
    (other_msi (get_or words 4 0) (get_or words 5 0) (get_or words 6 0) (get_or words 7 0) why some)

pub msi_refused : (features : Features) (words : List ℕ) (why : Refusal) → has_bit (get_or words 0 0) 0 ≡ true →
    first_row (msi_rows (get_or words 4 0) (get_or words 5 0) (get_or words 6 0) (get_or words 7 0)) ≡ Some why →
    with_modes features (context_in words) ≡ Err (cause_by why)
msi_refused features words why v some =
    let bad : cause_by why ≡ DirBad = all_bad (not (field_of (get_or words 4 0) 44 16 == 0)) (not (is_msi_mode (field_of (get_or words 4 0) 60 4)))
    (not (field_of (get_or words 5 0) 52 12 == 0)) (not (field_of (get_or words 6 0) 52 12 == 0)) (not (field_of (get_or words 7 0) 0 64 == 0))
    (refusal.Reserved the.Msiptp 59 44) (refusal.MsiMode (field_of (get_or words 4 0) 60 4)) (refusal.Reserved the.MsiAddrMask 63 52)
    (refusal.Reserved the.MsiAddrPattern 63 52) (refusal.Reserved the.Last 63 0) why some refl refl refl refl refl in
    rw bad (unnamed features words v (msi_isnt words why some))

-- the rows of the stages
stage_cases : {X : Type 0} (a x b y d e : Bool) (c : X) (m n : ℕ) →
    IsReasonOf (first_row (row (not (a && x)) (refusal.Mode m) ∷ row (not (b && y)) (refusal.SecondMode n) ∷ row (not d && not e) refusal.Misaligned ∷ []))
    (if a && b && (d || e) then (if x && y then Ok c else Err DirBad) else Err DirBad)
stage_cases false x b y d e c m n = refl
stage_cases true false false y d e c m n = refl
stage_cases true false true y true e c m n = refl
stage_cases true false true y false true c m n = refl
stage_cases true false true y false false c m n = refl
stage_cases true true false y d e c m n = refl
stage_cases true true true false true e c m n = refl
stage_cases true true true false false true c m n = refl
stage_cases true true true false false false c m n = refl
stage_cases true true true true true e c m n = λ cause is. cc
stage_cases true true true true false true c m n = λ cause is. cc
stage_cases true true true true false false c m n = refl

-- with all of them 0 the stages decide
pub stages_decide : (features : Features) (words : List ℕ) → has_bit (get_or words 0 0) 0 ≡ true → get_or words 0 0 ≡ tc (fields_in words) →
    get_or words 1 0 ≡ iohgatp (fields_in words) → get_or words 2 0 ≡ ta (fields_in words) → get_or words 3 0 ≡ fsc (fields_in words) →
    get_or words 4 0 ≡ msiptp (fields_in words).msi → get_or words 5 0 ≡ (fields_in words).msi.mask →
    get_or words 6 0 ≡ (fields_in words).msi.pattern → get_or words 7 0 ≡ 0 →
    IsReasonOf (first_row (stage_rows features (get_or words 3 0) (get_or words 1 0))) (with_modes features (context_in words))
stages_decide features words v a b c d e f g h =
    let own = fields_in words in
    rw (named features words v (grind (arith, a, b, c, d, e, f, g, h)))
    (stage_cases (is_mode own.mode) (has_bit features sv57_bit || not (own.mode == 10)) (is_mode own.gmode) (has_bit features sv57x4_bit || not (own.gmode == 10))
    (own.gmode == 0) (own.gppn % 4 == 0) own own.mode own.gmode)
