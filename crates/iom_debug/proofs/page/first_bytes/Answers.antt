use Rattle.iom_debug.proofs.Telling.{cut_to, cut_short}
use Rattle.iom_debug.proofs.page.first_bytes.Goals as goal

pub returns-clause-bytes : goal.returns-clause-bytes
returns-clause-bytes c = cut_to 513 _ _ c.min-count.ensures

pub returns-clause-short : goal.returns-clause-short
returns-clause-short c = cut_short 513 _ _ c.min-count.ensures
