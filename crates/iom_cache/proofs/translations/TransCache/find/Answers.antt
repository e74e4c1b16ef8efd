use Rattle.iom_cache.proofs.Held.{key_held}
use Rattle.iom_cache.proofs.translations.TransCache.find.Goals as goal

pub returns-clause-held : goal.returns-clause-held
returns-clause-held c = key_held c.args.key.now c.look.result c.args.self.now c.look.ensures
