use Rattle.std.proofs.Common.{◌≡◌, ◌∙◌, ◌≤◌, ℕ, List, length, map, take, ap, sym, arith}
use Rattle.std.proofs.lemmas.List.{length-map}
use Rattle.iom_text.specs.Words.{words_of}
use Rattle.iom_tool.specs.Texts.{text_of}
use Rattle.iom_traces.proofs.Words.{all_taken, few_same}
use Rattle.iom_traces.proofs.sights.do_tell.Goals as goal

pub returns-clause-told : goal.returns-clause-told
returns-clause-told c = λ is.
    let own : List (List ℕ) = map (λ word. word.now) c.deref.result.now in
    let all : List (List ℕ) = map (λ word. word.now) c.args.words.now in
    let text : List ℕ = text_of c.args.answer.now in
    let same = few_same own all (sym c.same_words.ensures ∙ is) in
    let words : own ≡ take 15 (words_of text) =
    ap (λ items. map (λ word. word.now) items) c.deref.ensures.0 ∙ c.words.ensures ∙ ap (λ (text : List ℕ). take 15 (words_of text)) (c.as_slice.ensures.value ∙ c.answer_text-text.ensures.text) in
    let count : length own ≡ length (take 15 (words_of text)) = ap length words in
    let size : length own ≡ length all = ap length same.0 in
    let few : length all ≤ 2 = same.1 in
    sym same.0 ∙ words ∙ all_taken 15 (words_of text) (omega (arith, count, size, few))

pub returns-clause-few : goal.returns-clause-few
returns-clause-few c = λ is.
    let own : List (List ℕ) = map (λ word. word.now) c.deref.result.now in
    let all : List (List ℕ) = map (λ word. word.now) c.args.words.now in
    let few : length all ≤ 2 = (few_same own all (sym c.same_words.ensures ∙ is)).1 in
    let count : length all ≡ length c.args.words.now = length-map c.args.words.now (λ word. word.now) in
    omega (arith, few, count)
