use Rattle.std.proofs.Common.{◌≡◌}
use Rattle.iom_cache.specs.Places.{find}
use Rattle.iom_cache.specs.Keys.{same_did}
use Rattle.iom_cache.proofs.contexts.ContextCache.find.Given as goal

-- no place so far has the device's id: what the rest gives is what all of them give
abbrev pub invariant-loop-place : goal.invariant-loop-place
invariant-loop-place l = record {
  can_next : (goal.iterator-loop-place).can_next l.place-iterator;
  is_finite : (goal.iterator-loop-place).is_finite l.place-iterator;
  rest : find (same_did l.did) l.place-iterator ≡ find (same_did l.did) l.self;
}
