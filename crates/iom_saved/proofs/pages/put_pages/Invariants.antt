use Rattle.std.proofs.Common.{◌≡◌, ◌++◌, take}
use Rattle.std.specs.List.{AllByRecursion, flat_map}
use Rattle.iom_saved.specs.Caches.{page_place_words}
use Rattle.iom_saved.specs.Kept.{IsPagePlace}
use Rattle.iom_saved.proofs.pages.put_pages.Given as goal

-- the places so far were put
abbrev pub invariant-loop-i : goal.invariant-loop-i
invariant-loop-i l = record {
  put : l.out.items ≡ l.initial.out.items ++ flat_map page_place_words (take l.i l.cache);
  kept : AllByRecursion IsPagePlace (take l.i l.cache);
}
