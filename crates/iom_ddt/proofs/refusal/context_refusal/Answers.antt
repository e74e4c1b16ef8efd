-- A bit that must be 0 is that of a word that isn't the one of its own fields.
use Rattle.std.proofs.Common.{◌∙◌, sym}
use Rattle.iom_ddt.proofs.Reasons.{fsc_is, fsc_isnt, fsc_refused, invalid, iohgatp_is, msi_is, msi_refused, stages_decide, ta_is, ta_isnt, ta_refused, tc_is, tc_isnt, tc_refused}
use Rattle.iom_ddt.proofs.refusal.context_refusal.Goals as goal

pub returns-then-not-has_bit-clause-exact : goal.returns-then-not-has_bit-clause-exact
returns-then-not-has_bit-clause-exact c = invalid c.args.features c.args.words (sym c.has_bit.ensures ∙ c.if-not-has_bit.true)

pub returns-then-field-ne0-clause-exact : goal.returns-then-field-ne0-clause-exact
returns-then-field-ne0-clause-exact c =
    rw c.reserved.ensures (tc_refused c.args.features c.args.words (sym c.has_bit.ensures ∙ c.if-not-has_bit.false)
    (λ same. c.if-field-ne0.true (c.field.ensures.value ∙ (tc_isnt _ same).0)))

pub returns-then-field-ne0-2-clause-exact : goal.returns-then-field-ne0-2-clause-exact
returns-then-field-ne0-2-clause-exact c =
    rw c.reserved-then-field-ne0-2.ensures (tc_refused c.args.features c.args.words (sym c.has_bit.ensures ∙ c.if-not-has_bit.false)
    (λ same. c.if-field-ne0-2.true (c.field-else-field-ne0.ensures.value ∙ (tc_isnt _ same).1)))

pub returns-then-field-ne0-3-clause-exact : goal.returns-then-field-ne0-3-clause-exact
returns-then-field-ne0-3-clause-exact c =
    rw c.reserved-then-field-ne0-3.ensures (tc_refused c.args.features c.args.words (sym c.has_bit.ensures ∙ c.if-not-has_bit.false)
    (λ same. c.if-field-ne0-3.true (c.field-else-field-ne0-2.ensures.value ∙ (tc_isnt _ same).2)))

pub returns-then-field-ne0-4-clause-exact : goal.returns-then-field-ne0-4-clause-exact
returns-then-field-ne0-4-clause-exact c =
    rw c.reserved-then-field-ne0-4.ensures (tc_refused c.args.features c.args.words (sym c.has_bit.ensures ∙ c.if-not-has_bit.false)
    (λ same. c.if-field-ne0-4.true (c.field-else-field-ne0-3.ensures.value ∙ (tc_isnt _ same).3)))

pub returns-then-field-ne0-5-clause-exact : goal.returns-then-field-ne0-5-clause-exact
returns-then-field-ne0-5-clause-exact c =
    rw c.reserved-then-field-ne0-5.ensures (ta_refused c.args.features c.args.words (sym c.has_bit.ensures ∙ c.if-not-has_bit.false)
    (λ same. c.if-field-ne0-5.true (c.field-else-field-ne0-4.ensures.value ∙ (ta_isnt _ same).0)))

pub returns-then-field-ne0-6-clause-exact : goal.returns-then-field-ne0-6-clause-exact
returns-then-field-ne0-6-clause-exact c =
    rw c.reserved-then-field-ne0-6.ensures (ta_refused c.args.features c.args.words (sym c.has_bit.ensures ∙ c.if-not-has_bit.false)
    (λ same. c.if-field-ne0-6.true (c.field-else-field-ne0-5.ensures.value ∙ (ta_isnt _ same).1)))

pub returns-then-field-ne0-7-clause-exact : goal.returns-then-field-ne0-7-clause-exact
returns-then-field-ne0-7-clause-exact c =
    rw c.reserved-then-field-ne0-7.ensures (fsc_refused c.args.features c.args.words (sym c.has_bit.ensures ∙ c.if-not-has_bit.false)
    (λ same. c.if-field-ne0-7.true (c.field-else-field-ne0-6.ensures.value ∙ (fsc_isnt _ same))))

pub returns-in-Some-clause-exact : goal.returns-in-Some-clause-exact
returns-in-Some-clause-exact c =
    msi_refused c.args.features c.args.words c.in-Some.why (sym c.has_bit.ensures ∙ c.if-not-has_bit.false) (sym c.msi_refusal.ensures ∙ c.in-Some.is)

pub returns-in-None-clause-exact : goal.returns-in-None-clause-exact
returns-in-None-clause-exact c =
    let others = msi_is _ _ _ _ c.element_fits5.fits c.element_fits6.fits c.element_fits7.fits c.element_fits8.fits (sym c.msi_refusal.ensures ∙ c.in-None.is) in
    rw c.stage_refusal.ensures (stages_decide c.args.features c.args.words (sym c.has_bit.ensures ∙ c.if-not-has_bit.false)
    (tc_is _ c.element_fits.fits (sym c.has_bit.ensures ∙ c.if-not-has_bit.false) (sym c.field.ensures.value ∙ c.if-field-ne0.false) (sym c.field-else-field-ne0.ensures.value ∙ c.if-field-ne0-2.false) (sym c.field-else-field-ne0-2.ensures.value ∙ c.if-field-ne0-3.false) (sym c.field-else-field-ne0-3.ensures.value ∙ c.if-field-ne0-4.false))
    (iohgatp_is _ c.element_fits2.fits) (ta_is _ c.element_fits3.fits (sym c.field-else-field-ne0-4.ensures.value ∙ c.if-field-ne0-5.false) (sym c.field-else-field-ne0-5.ensures.value ∙ c.if-field-ne0-6.false)) (fsc_is _ c.element_fits4.fits (sym c.field-else-field-ne0-6.ensures.value ∙ c.if-field-ne0-7.false))
    others.0 others.1 others.2 others.3)
