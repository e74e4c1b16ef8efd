use Rattle.std.proofs.Common.{◌≡◌, ◌++◌, ℕ, List, Option, length}
use Rattle.std.specs.List.{AllByRecursion, flat_map}
use Rattle.iom_ddt.specs.declared.context.Context.{Context}
use Rattle.iom_saved.specs.Caches.{context_place_words}
use Rattle.iom_saved.specs.Kept.{IsContextPlace}
use Rattle.iom_saved.proofs.Taken.{Went}
use Rattle.iom_saved.proofs.contexts.take_contexts.Given as goal

-- what was read is the places so far, and of words that were put those of the others are left
abbrev pub invariant-loop : goal.invariant-loop
invariant-loop l = record {
  read : l.initial.words ≡ flat_map context_place_words l.cache ++ l.words;
  count : length l.cache ≡ l.counter;
  went : (places : List (Option (ℕ × Context))) (rest : List ℕ) → l.initial.words ≡ flat_map context_place_words places ++ rest → length places ≡ l.count →
      AllByRecursion IsContextPlace places → Went context_place_words IsContextPlace places l.cache rest l.words;
}
