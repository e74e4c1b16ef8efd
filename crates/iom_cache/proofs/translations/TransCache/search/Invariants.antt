use Rattle.iom_cache.proofs.Counted.{IsWalked}
use Rattle.iom_cache.proofs.translations.TransCache.search.Given as goal

-- the walk along the key's bucket
abbrev pub invariant-loop-limit : goal.invariant-loop-limit
invariant-loop-limit l = IsWalked l.self-inside.index.links l.self-inside.index.first l.key l.self-inside.places.items l.slot l.limit l.count

abbrev pub decreases-loop-limit : goal.decreases-loop-limit
decreases-loop-limit l = l.limit
