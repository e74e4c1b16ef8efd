use Rattle.std.proofs.Common.{refl}
use Rattle.iom_cache.proofs.Indexed.{empty_index}
use Rattle.iom_cache.proofs.index.Index.new.Goals as goal

pub returns : goal.returns
returns c = empty_index _ refl refl refl refl
