use Rattle.std.proofs.Common.{◌∙◌, ap, false, refl, sym}
use Rattle.iom_explain.specs.Explaining.{if_told, is_told}
use Rattle.iom_explain.proofs.Telling.{accessed, known, unaccessed}
use Rattle.iom_explain.proofs.steps.take.Goals as goal

pub returns-in_default-clause-told : goal.returns-in_default-clause-told
returns-in_default-clause-told c = λ memory.
    unaccessed _ c.args.number c.args.entry.now.step c.look-led.result c.step-stale.new.answer c.as_slice.result.now _ _ _ _
    (record { state = c.step-stale.ensures.state; trace = refl; stale = c.step-stale.ensures.stale; fence = c.step-stale.ensures.fence; ignored = c.step-stale.ensures.ignored; settled = c.step-stale.ensures.settled; invalidation = c.step-stale.ensures.invalidation; along = c.step-stale.ensures.along; names = refl; marks = refl })
    (sym c.is_lost.ensures ∙ known _ _ (sym c.is_refused-teller.ensures ∙ memory)) c.look-led.ensures.led c.in_default.not-Some c.step-stale.ensures.answer (c.as_slice.ensures ∙ c.put_traced_step.ensures.text)
    (c.keep_line.ensures ∙ ap (if_told (is_told c.args.teller.now.only false false false))
    (rw c.clear.ensures at c.put_step.ensures.text)) refl refl

pub returns-else-is_err-clause-told : goal.returns-else-is_err-clause-told
returns-else-is_err-clause-told c = λ memory.
    accessed _ c.args.number c.args.entry.now.step c.in-Some.led c.denied_for-denied.result c.newest_origin-used.result c.step-stale.result
    c.last_unsettled-unsettled.result
    c.step-stale.new.answer _ _ c.as_slice.result.now _ _ _ _ c.tell_access.result
    (record { state = c.step-stale.ensures.state; trace = refl; stale = c.step-stale.ensures.stale; fence = c.step-stale.ensures.fence; ignored = c.step-stale.ensures.ignored; settled = c.step-stale.ensures.settled; invalidation = c.step-stale.ensures.invalidation; along = c.step-stale.ensures.along; names = refl; marks = refl })
    (sym c.is_lost.ensures ∙ known _ _ (sym c.is_refused-teller.ensures ∙ sym c.tell_access.ensures.short ∙ memory)) c.last_unsettled-unsettled.ensures c.in-Some.ensures.led c.step-stale.ensures.answer (c.as_slice.ensures ∙ c.put_traced_step.ensures.text) c.newest_origin-used.ensures
    c.in-Some.ensures.asks c.in-Some.ensures.walk c.step-stale.ensures.access c.denied_for-denied.ensures (sym c.if-is_err.ensures.value)
    c.tell_access.ensures.counts
    (rw (c.put_step.ensures.text, c.clear.ensures, c.last_invalidation-last.ensures) at c.tell_access.ensures.text) c.tell_access.ensures.only
