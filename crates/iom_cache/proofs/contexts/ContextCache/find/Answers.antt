use Rattle.std.proofs.Common.{rules, Some, None}
use Rattle.iom_cache.proofs.Held.{did_held}
use Rattle.iom_cache.proofs.contexts.ContextCache.find.Goals as goal

pub returns-in-loop-place-clause-held : goal.returns-in-loop-place-clause-held
returns-in-loop-place-clause-held c = did_held c.args.did (Some c.in-Some-place.context) c.args.self.now (search rules)

pub returns-clause-held : goal.returns-clause-held
returns-clause-held c = did_held c.args.did None c.args.self.now (search rules)
