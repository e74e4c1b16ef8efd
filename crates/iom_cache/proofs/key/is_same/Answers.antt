use Rattle.std.proofs.Common.{rules}
use Rattle.iom_cache.proofs.key.is_same.Goals as goal

pub returns : goal.returns
returns c = search rules
