use Rattle.std.proofs.Common.{rules}
use Rattle.iom_cache.proofs.drops.vma_guest.Goals as goal

pub returns-else-gv : goal.returns-else-gv
returns-else-gv c = search rules
