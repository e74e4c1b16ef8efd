use Rattle.iom_debug.proofs.Telling.{cut_to}
use Rattle.iom_scripts.proofs.marking.first_of.Goals as goal

pub returns : goal.returns
returns c = cut_to 510 _ _ c.min-count.ensures
