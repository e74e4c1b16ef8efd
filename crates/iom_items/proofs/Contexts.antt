-- The line of a context is that of its words.
use Rattle.std.proofs.Common.{◌≡◌, ◌≤◌, ◌<◌, ℕ, ◌==◌, ◌&&◌, if◌then◌else◌, Bool, true, false, not, List, [], ◌∷◌, get_or, Some, Ok, Err, refl, sym, ◌∙◌, ap, arith}
use Rattle.std.specs.Prelude.{IsTrue}
use Rattle.std.proofs.lemmas.Grind.{common_steps}
use Rattle.iom_bits.specs.declared.causes.Cause.TheVariants.{DirInvalid, DirBad}
use Rattle.iom_bits.specs.Bits.{field_of, flag, has_bit}
use Rattle.iom_ddt.specs.declared.context.Context.{Context}
use Rattle.iom_ddt.specs.Contexts.{IsMsiFitting, IsWellFormed, is_mode, is_well_formed}
use Rattle.iom_ddt.specs.Words.{are_words_of, context_in, fields_in, fsc, iohgatp, msi_in, msiptp, ta, tc}
use Rattle.iom_ddt.specs.declared.context.MsiTable.{MsiTable}
use Rattle.iom_ddt.specs.declared.formats.ContextFormat.{ContextFormat}
use Rattle.iom_ddt.specs.declared.formats.ContextFormat.TheVariants.{Base, Extended}
use Rattle.iom_items.specs.declared.item.Item.TheVariants as item
use Rattle.iom_items.specs.Layouts.{context_layout}
use Rattle.iom_items.specs.Lines.{context_text, layout_in, line_of, text_by, words_with}
use Rattle.iom_items.proofs.Reading.{reads_contexts, reads_extended}

-- a flag is 0 or 1, and a field of one bit holds it
pub small : (set : Bool) → flag set ≤ 1
small true = omega arith
small false = omega arith

pub bit_told : (word low : ℕ) (set : Bool) → field_of word low 1 ≡ flag set → has_bit word low ≡ set
unfolding has_bit
bit_told word low true e = grind (arith, e)
bit_told word low false e = grind (arith, e)

pub mode_fits : (mode : ℕ) → IsTrue (is_mode mode) → mode < 16
mode_fits mode is = grind (arith, common_steps, is)

-- what its words say in base format, where they have no MSI page table, and in extended format
abbrev pub said_by : ContextFormat → Context → Context
said_by Base c = record c { msi = msi_in 0 0 0 }
said_by Extended c = c

msi_of_words : (msi : MsiTable) → IsMsiFitting msi → msi_in (msiptp msi) msi.mask msi.pattern ≡ msi
msi_of_words msi fits =
    let ppn : field_of (msiptp msi) 0 44 ≡ msi.ppn = omega (arith, small msi.flat, fits.root) in
    let flat : field_of (msiptp msi) 60 1 ≡ flag msi.flat = omega (arith, small msi.flat, fits.root) in
    let mask : field_of msi.mask 0 52 ≡ msi.mask = omega (arith, fits.mask) in
    let pattern : field_of msi.pattern 0 52 ≡ msi.pattern = omega (arith, fits.pattern) in
    rw (bit_told (msiptp msi) 60 msi.flat flat, ppn, mask, pattern) refl

front_of_words : (c : Context) (msi : MsiTable) (more : List ℕ) → IsWellFormed c →
    msi_in (get_or more 0 0) (get_or more 1 0) (get_or more 2 0) ≡ msi → fields_in (tc c ∷ iohgatp c ∷ ta c ∷ fsc c ∷ more) ≡ record c { msi = msi }
front_of_words c msi more fits is =
    let dtf : field_of (tc c) 4 1 ≡ flag c.dtf = omega (arith, small c.dtf, fits.custom) in
    let custom : field_of (tc c) 24 8 ≡ c.custom = omega (arith, small c.dtf, fits.custom) in
    let gmode : field_of (iohgatp c) 60 4 ≡ c.gmode = omega (arith, mode_fits c.gmode fits.second_mode, fits.second_root, fits.guest) in
    let gppn : field_of (iohgatp c) 0 44 ≡ c.gppn = omega (arith, fits.second_root, fits.guest) in
    let gscid : field_of (iohgatp c) 44 16 ≡ c.gscid = omega (arith, fits.second_root, fits.guest) in
    let tav : field_of (ta c) 0 1 ≡ flag c.tav = omega (arith, small c.tav, fits.process) in
    let pscid : field_of (ta c) 12 20 ≡ c.pscid = omega (arith, small c.tav, fits.process) in
    let mode : field_of (fsc c) 60 4 ≡ c.mode = omega (arith, mode_fits c.mode fits.first_mode, fits.first_root) in
    let ppn : field_of (fsc c) 0 44 ≡ c.ppn = omega (arith, fits.first_root) in
    rw (bit_told (tc c) 4 c.dtf dtf, custom, gmode, gppn, gscid, bit_told (ta c) 0 c.tav tav, pscid, mode, ppn, is) refl

fields_of_words : (format : ContextFormat) (c : Context) → IsWellFormed c → fields_in (words_with format c) ≡ said_by format c
fields_of_words Base c fits = front_of_words c (msi_in 0 0 0) [] fits refl
fields_of_words Extended c fits = front_of_words c c.msi (msiptp c.msi ∷ c.msi.mask ∷ c.msi.pattern ∷ 0 ∷ []) fits (msi_of_words c.msi fits.msi)

own : (a b c d : ℕ) → (a == a && b == b && c == c && d == d && true && true && true && true) ≡ true
own a b c d = grind (arith, common_steps)

all_own : (a b c d e f g : ℕ) → (a == a && b == b && c == c && d == d && e == e && f == f && g == g && true) ≡ true
all_own a b c d e f g = grind (arith, common_steps)

are_own : (format : ContextFormat) (c : Context) → are_words_of (words_with format c) (said_by format c) ≡ true
unfolding has_bit
are_own Base c = own (tc c) (iohgatp c) (ta c) (fsc c)
are_own Extended c = all_own (tc c) (iohgatp c) (ta c) (fsc c) (msiptp c.msi) c.msi.mask c.msi.pattern

kept : (valid well same : Bool) (c : Context) → valid ≡ true → well ≡ true → same ≡ true →
    (if not valid then Err DirInvalid else if well && same then Ok c else Err DirBad) ≡ Ok c
kept true true true c valid_so well_so same_so = refl
kept false well same c valid_so well_so same_so = absurd cc
kept true false same c valid_so well_so same_so = absurd cc
kept true true false c valid_so well_so same_so = absurd cc

pub modes_hold : (c : Context) → IsWellFormed c → is_well_formed c ≡ true
modes_hold c fits = grind (arith, common_steps, fits.first_mode, fits.second_mode, fits.second_root_aligned)

with_fields : (words : List ℕ) (c : Context) → fields_in words ≡ c → context_in words
    ≡ (if not (has_bit (get_or words 0 0) 0) then Err DirInvalid else if is_well_formed c && are_words_of words c then Ok c else Err DirBad)
unfolding context_in
with_fields words c is = rw (sym is) refl

modes_said : (format : ContextFormat) (c : Context) → IsWellFormed c → is_well_formed (said_by format c) ≡ true
modes_said Base c fits = modes_hold c fits
modes_said Extended c fits = modes_hold c fits

first_word : (format : ContextFormat) (c : Context) → get_or (words_with format c) 0 0 ≡ tc c
first_word Base c = refl
first_word Extended c = refl

pub context_of_words : (format : ContextFormat) (c : Context) → IsWellFormed c → context_in (words_with format c) ≡ Ok (said_by format c)
context_of_words format c fits =
    let valid : field_of (tc c) 0 1 ≡ flag true = omega (arith, small c.dtf, fits.custom) in
    with_fields (words_with format c) (said_by format c) (fields_of_words format c fits)
    ∙ kept (has_bit (get_or (words_with format c) 0 0) 0) (is_well_formed (said_by format c)) (are_words_of (words_with format c) (said_by format c)) (said_by format c)
    (ap (λ word. has_bit word 0) (first_word format c) ∙ bit_told (tc c) 0 true valid) (modes_said format c fits) (are_own format c)

found : (format : ContextFormat) (c : Context) → IsWellFormed c → layout_in format item.Context (words_with format c) ≡ Some (context_layout format)
found Base c fits =
    let told = reads_contexts (tc c) (iohgatp c) (ta c) (fsc c) in
    (rw (context_of_words Base c fits) at told).0
found Extended c fits =
    let told = reads_extended (tc c) (iohgatp c) (ta c) (fsc c) (msiptp c.msi) c.msi.mask c.msi.pattern 0 in
    (rw (context_of_words Extended c fits) at told).0

pub context_same : (format : ContextFormat) (c : Context) → IsWellFormed c → line_of format item.Context (words_with format c) ≡ context_text format c
context_same format c fits = ap (λ found. text_by found (words_with format c)) (found format c fits)
