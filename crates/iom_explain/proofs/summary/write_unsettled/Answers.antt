use Rattle.iom_explain.proofs.Telling.{two_written}
use Rattle.iom_explain.proofs.summary.write_unsettled.Goals as goal

pub returns-clause-ok : goal.returns-clause-ok
returns-clause-ok g c =
    two_written c.write_lines.result _ _ _ _ _
    (rw (c.as_slice.ensures.value, c.put_unsettled.ensures.text, c.clear.ensures) at c.in_ok-write_told.ensures.ok)
    (rw c.unsettled_lines.ensures at c.write_lines.ensures.ok)
