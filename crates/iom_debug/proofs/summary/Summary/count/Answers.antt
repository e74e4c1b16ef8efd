use Rattle.iom_debug.proofs.Summing.{summed_by}
use Rattle.iom_debug.proofs.summary.Summary.count.Goals as goal

pub returns-clause-counts : goal.returns-clause-counts
returns-clause-counts c = summed_by _ _ _ _ c.in_ok-note_lines.ensures.ok c.add.ensures
