use Rattle.std.proofs.Common.{subst}
use Rattle.iom_cache.specs.Index.{AreApart}
use Rattle.iom_cache.proofs.Counted.{hit_is_found}
use Rattle.iom_cache.proofs.translations.TransCache.hinted.Goals as goal

pub returns : goal.returns
returns c =
    hit_is_found c.args.key.now c.args.self.now c.position-at.result c.hit_at.result
    (subst AreApart c.self.view_is c.self.invariant.2) c.hit_at.ensures
