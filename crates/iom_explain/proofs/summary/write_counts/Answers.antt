use Rattle.iom_explain.proofs.Telling.{four_written}
use Rattle.iom_explain.proofs.summary.write_counts.Goals as goal

pub returns-clause-ok : goal.returns-clause-ok
returns-clause-ok g c =
    four_written c.write_lines.result _ _ _ _ _ _ _ _ _
    (rw (c.as_slice.ensures.value, c.put_counts.ensures.text, c.clear.ensures) at c.in_ok-write_told.ensures.ok)
    (rw c.denied.ensures at c.in_ok-write_denied.ensures.ok)
    (rw (c.as_slice-2.ensures.value, c.put_stale.ensures.text, c.clear-2.ensures) at c.in_ok-write_told-2.ensures.ok)
    (rw c.stale_lines.ensures at c.write_lines.ensures.ok)
