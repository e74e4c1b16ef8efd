use Rattle.iom_slips.proofs.Cuts.{cut_to, cut_short}
use Rattle.iom_slips.proofs.quoting.first_bytes.Goals as goal

pub returns-clause-bytes : goal.returns-clause-bytes
returns-clause-bytes c = cut_to 32 _ _ c.min-count.ensures

pub returns-clause-short : goal.returns-clause-short
returns-clause-short c = cut_short 32 _ _ c.min-count.ensures
