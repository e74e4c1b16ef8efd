use Rattle.iom_explain.proofs.Telling.{two_written}
use Rattle.iom_explain.proofs.summary.write_summary.Goals as goal

pub returns-then-tells_settled-clause-ok : goal.returns-then-tells_settled-clause-ok
returns-then-tells_settled-clause-ok g c =
    rw c.if-tells_settled.true
    (two_written c.write_unsettled.result _ _ _ _ _ c.in_ok-write_counts.ensures.ok c.write_unsettled.ensures.ok)
