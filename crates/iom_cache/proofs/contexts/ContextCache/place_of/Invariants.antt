use Rattle.std.proofs.Common.{◌≡◌, ◌+◌, length}
use Rattle.iom_cache.specs.Places.{place_of}
use Rattle.iom_cache.specs.Keys.{same_did}
use Rattle.iom_cache.proofs.contexts.ContextCache.place_of.Given as goal

-- no place so far has the device's id: the place among all is that among the rest, so many places on
abbrev pub invariant-loop-at : goal.invariant-loop-at
invariant-loop-at l = record {
  can_next : (goal.iterator-loop-at).can_next l.place-iterator;
  is_finite : (goal.iterator-loop-at).is_finite l.place-iterator;
  few : length l.place-iterator + l.at ≡ length l.self;
  rest : place_of (same_did l.did) l.place-iterator + l.at ≡ place_of (same_did l.did) l.self;
}
