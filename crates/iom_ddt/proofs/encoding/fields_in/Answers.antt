use Rattle.std.proofs.Common.{◌≡◌, ◌<◌, ◌^◌, ℕ, List, IsTrue, ap, refl, ◌∙◌, arith}
use Rattle.std.specs.Prelude.{get_or}
use Rattle.iom_bits.specs.Bits.{field_of, has_bit}
use Rattle.iom_ddt.specs.Contexts.{is_mode}
use Rattle.iom_ddt.specs.Words.{fsc, iohgatp, msiptp, ta, tc, words_of}
use Rattle.iom_ddt.specs.declared.context.ContextFields.{ContextFields}
use Rattle.iom_ddt.proofs.encoding.fields_in.Goals as goal

tc_fields : (w : ℕ) (c : ContextFields) → c.custom < 2 ^ 8 → w ≡ tc c → (has_bit w 4 ≡ c.dtf) × (field_of w 24 8 ≡ c.custom)
unfolding has_bit
tc_fields w c fits is = (grind arith, grind arith)

iohgatp_fields : (w : ℕ) (c : ContextFields) → IsTrue (is_mode c.gmode) → c.gppn < 2 ^ 44 → c.gscid < 2 ^ 16 → w ≡ iohgatp c →
    (field_of w 60 4 ≡ c.gmode) × (field_of w 0 44 ≡ c.gppn) × (field_of w 44 16 ≡ c.gscid)
iohgatp_fields w c mode root guest is = (grind arith, grind arith, grind arith)

ta_fields : (w : ℕ) (c : ContextFields) → c.pscid < 2 ^ 20 → w ≡ ta c → (has_bit w 0 ≡ c.tav) × (field_of w 12 20 ≡ c.pscid)
unfolding has_bit
ta_fields w c fits is = (grind arith, grind arith)

fsc_fields : (w : ℕ) (c : ContextFields) → IsTrue (is_mode c.mode) → c.ppn < 2 ^ 44 → w ≡ fsc c → (field_of w 60 4 ≡ c.mode) × (field_of w 0 44 ≡ c.ppn)
fsc_fields w c mode root is = (grind arith, grind arith)

pub returns-clause-only : goal.returns-clause-only
returns-clause-only c = λ context is.
    let words : c.args.words ≡ words_of context = is.words_are in
    let pointer : get_or c.args.words 4 0 ≡ msiptp context.msi = ap (λ (w : List ℕ). get_or w 4 0) words in
    let mask : get_or c.args.words 5 0 ≡ context.msi.mask = ap (λ (w : List ℕ). get_or w 5 0) words in
    let pattern : get_or c.args.words 6 0 ≡ context.msi.pattern = ap (λ (w : List ℕ). get_or w 6 0) words in
    let msi = c.msi_in.ensures.only context.msi is.well_formed.msi pointer mask pattern in
    let zeroth = tc_fields _ context is.well_formed.custom (ap (λ (w : List ℕ). get_or w 0 0) words) in
    let first = iohgatp_fields _ context is.well_formed.second_mode is.well_formed.second_root is.well_formed.guest (ap (λ (w : List ℕ). get_or w 1 0) words) in
    let second = ta_fields _ context is.well_formed.process (ap (λ (w : List ℕ). get_or w 2 0) words) in
    let third = fsc_fields _ context is.well_formed.first_mode is.well_formed.first_root (ap (λ (w : List ℕ). get_or w 3 0) words) in
    rw (
      msi,
      c.has_bit.ensures ∙ zeroth.0,
      c.field.ensures.value ∙ zeroth.1,
      c.field-2.ensures.value ∙ first.0,
      c.field-3.ensures.value ∙ first.1,
      c.field-4.ensures.value ∙ first.2,
      c.has_bit-2.ensures ∙ second.0,
      c.field-5.ensures.value ∙ second.1,
      c.field-6.ensures.value ∙ third.0,
      c.field-7.ensures.value ∙ third.1,
    ) refl
