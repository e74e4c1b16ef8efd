use Rattle.std.proofs.Common.{rules}
use Rattle.iom_cache.proofs.drops.vma_process.Goals as goal

pub returns-then-eq : goal.returns-then-eq
returns-then-eq c = search rules
