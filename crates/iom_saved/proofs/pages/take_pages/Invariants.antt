use Rattle.std.proofs.Common.{◌≡◌, ◌++◌, ℕ, List, Option, length}
use Rattle.std.specs.List.{AllByRecursion, flat_map}
use Rattle.iom_nested.specs.declared.translation.Hit.{Hit}
use Rattle.iom_cache.specs.declared.key.Key.{Key}
use Rattle.iom_saved.specs.Caches.{page_place_words}
use Rattle.iom_saved.specs.Kept.{IsPagePlace}
use Rattle.iom_saved.proofs.Taken.{Went}
use Rattle.iom_saved.proofs.pages.take_pages.Given as goal

-- what was read is the places so far, and of words that were put those of the others are left
abbrev pub invariant-loop : goal.invariant-loop
invariant-loop l = record {
  read : l.initial.words ≡ flat_map page_place_words l.cache ++ l.words;
  count : length l.cache ≡ l.counter;
  went : (places : List (Option (Key × Hit))) (rest : List ℕ) → l.initial.words ≡ flat_map page_place_words places ++ rest → length places ≡ l.count →
      AllByRecursion IsPagePlace places → Went page_place_words IsPagePlace places l.cache rest l.words;
}
