use Rattle.std.proofs.Common.{◌≡◌, ◌==◌, true, false, inl, length, subst}
use Rattle.std.proofs.lemmas.Result.{err_from_is_err_and}
use Rattle.iom_reader.specs.declared.fault.RunFault.TheVariants as fault
use Rattle.iom_reader.proofs.Splits.{open_line-kept}
use Rattle.iom_reader.proofs.Feeding.{none_kept, end_is_last, end_answered, end_fails, flushed}
use Rattle.iom_reader.proofs.rest.Rest.finish.Goals as goal

pub returns-then-is_empty-clause-fed : goal.returns-then-is_empty-clause-fed
returns-then-is_empty-clause-fed g c start text h =
    let none = subst (λ kept. true ≡ (length kept == 0)) c.as_slice.ensures.value c.if-is_empty.ensures in
    let nothing = none_kept c.args.self.now.line.items none in
    flushed g.A.Answerer.answering c.requires.lawful _ _ text _ _ (end_is_last g.A.Answerer.answering _ _ _ _ _ _ h nothing.1) c.flush.ensures.kept c.flush.ensures.fault

pub returns-in_err-answer_kept-clause-fed : goal.returns-in_err-answer_kept-clause-fed
returns-in_err-answer_kept-clause-fed g c start text h =
    let some = subst (λ kept. false ≡ (length kept == 0)) c.as_slice.ensures.value c.if-is_empty.ensures in
    let p = err_from_is_err_and c.from_residual.result c.from_residual.ensures.1 in
    rw (p.1, p.2, c.in_err-answer_kept.ensures.fault) (
    inl (end_fails g.A.Answerer.answering c.requires.lawful _ _ _ _ _ _ _ fault.Write h some (c.in_err-answer_kept.ensures.next (open_line-kept _ text h.keeps))))

pub returns-clause-fed : goal.returns-clause-fed
returns-clause-fed g c start text h =
    let some = subst (λ kept. false ≡ (length kept == 0)) c.as_slice.ensures.value c.if-is_empty.ensures in
    flushed g.A.Answerer.answering c.requires.lawful _ _ text _ _
    (end_answered g.A.Answerer.answering c.requires.lawful _ _ _ _ _ _ _ h some (c.in_ok-answer_kept.ensures.next (open_line-kept _ text h.keeps)))
    c.flush-2.ensures.kept c.flush-2.ensures.fault
