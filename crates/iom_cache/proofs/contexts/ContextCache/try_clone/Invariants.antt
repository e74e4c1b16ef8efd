use Rattle.std.proofs.Common.{◌≡◌, ◌++◌}
use Rattle.iom_cache.proofs.contexts.ContextCache.try_clone.Given as goal

-- the places copied so far, and those to come, are all places
abbrev pub invariant-loop-place : goal.invariant-loop-place
invariant-loop-place l = record {
  can_next : (goal.iterator-loop-place).can_next l.place-iterator;
  is_finite : (goal.iterator-loop-place).is_finite l.place-iterator;
  capacity : l.places.capacity ≡ 16;
  whole : l.places.items ++ l.place-iterator ≡ l.self;
}
