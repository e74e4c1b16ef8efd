use Rattle.std.proofs.Common.{◌+◌, ◌-◌, ◌∷◌, [], ◌++◌, ◌∙◌, ◌<◌, length, take, map, sym, ap, arith}
use Rattle.std.proofs.lemmas.Grind.{common_steps}
use Rattle.std.proofs.lemmas.List.{map-append}
use Rattle.iom_text.specs.Words.{words_of}
use Rattle.iom_text.proofs.Cuts.{one_word}
use Rattle.iom_text.proofs.reading.words.Goals as goal

pub loop-preserved : goal.loop-preserved
loop-preserved c = record {
  count = omega (arith, c.loop.invariant.count, c.push.ensures.len);
  words =
      let some : 0 < length c.first_word.result.0.now = grind (arith, common_steps) in
      one_word _ _ _ _ c.first_word.result.0.now 15 c.loop.counter c.loop-test.true (c.first_word.ensures.some some) c.loop.invariant.words
      ∙ ap (λ front. front ++ take (15 - (c.loop.counter + 1)) (words_of c.first_word.result.1.now))
      (sym (ap (λ items. map (λ word. word.now) items) c.push.ensures.items ∙ map-append (λ word. word.now) c.loop.words.items (c.first_word.result.0 ∷ [])));
}
