use Rattle.std.proofs.Common.{◌≡◌, ◌-◌, ◌++◌, length, map, take}
use Rattle.iom_text.specs.Words.{words_of}
use Rattle.iom_text.proofs.reading.words.Given as goal

abbrev pub invariant-loop : goal.invariant-loop
invariant-loop l = record {
  count : length l.words.items ≡ l.counter;
  words : take 15 (words_of l.text) ≡ map (λ word. word.now) l.words.items ++ take (15 - l.counter) (words_of l.rest);
}
