use Rattle.std.proofs.Common.{◌≡◌, ◌++◌, take}
use Rattle.std.specs.List.{AllByRecursion, flat_map}
use Rattle.iom_saved.specs.Caches.{context_place_words}
use Rattle.iom_saved.specs.Kept.{IsContextPlace}
use Rattle.iom_saved.proofs.contexts.put_contexts.Given as goal

-- the places so far were put
abbrev pub invariant-loop-i : goal.invariant-loop-i
invariant-loop-i l = record {
  put : l.out.items ≡ l.initial.out.items ++ flat_map context_place_words (take l.i l.cache);
  kept : AllByRecursion IsContextPlace (take l.i l.cache);
}
