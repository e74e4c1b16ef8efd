use Rattle.iom_cache.proofs.Named.{has_named_pages}
use Rattle.iom_cache.proofs.ranges.ranges_are_as_named.Goals as goal

pub returns : goal.returns
returns c = has_named_pages
