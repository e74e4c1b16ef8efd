use Rattle.iom_cache.proofs.Spared.{drops_its_own}
use Rattle.iom_cache.proofs.drops.guests_and_host_are_apart.Goals as goal

pub returns : goal.returns
returns c = drops_its_own
