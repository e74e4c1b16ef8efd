use Rattle.std.proofs.Common.{◌∙◌, ap}
use Rattle.iom_debug.specs.declared.debugger.Debugger.{Debugger}
use Rattle.iom_check.specs.Scoring.{Score}
use Rattle.iom_check.proofs.Telling.{checked}
use Rattle.iom_check.proofs.checking.check.Goals as goal

pub returns-clause-checked : goal.returns-clause-checked
returns-clause-checked g c =
    let looked = c.in_ok-look_at_caches.ensures in
    let owed = c.in_ok-tell_owed.ensures in
    let marks = owed.marks ∙ ap (λ (d : Debugger). d.marks) looked.debugger in
    checked _ _ _ _ _ _ _ _ _ _ _ _ marks c.in_ok-answer_all.ensures.ends looked.ok looked.score
    (rw (looked.number, looked.place, looked.debugger) at owed.told)
    (rw (c.as_slice.ensures.value, c.end.ensures.text, c.clear.ensures, owed.place, looked.place) at c.in_ok-write_told.ensures.ok)
    (rw (owed.place, looked.place) at (ap (λ (s : Score). s.tally) c.end.ensures.score))
