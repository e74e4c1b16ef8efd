use Rattle.iom_cache.specs.Keys.{key_of}
use Rattle.std.proofs.Common.{rules}
use Rattle.iom_cache.proofs.key.key_of.Goals as goal

pub returns : goal.returns
unfolding key_of
returns c = search rules
