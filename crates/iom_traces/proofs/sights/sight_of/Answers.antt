use Rattle.std.proofs.Common.{◌≡◌, ◌∙◌, ℕ, List, length, map, take, ap, subst, arith}
use Rattle.std.proofs.lemmas.List.{length-map}
use Rattle.iom_text.specs.Words.{words_of}
use Rattle.iom_traces.specs.Sights.{IsSeen}
use Rattle.iom_traces.proofs.Words.{all_taken, saw_so}
use Rattle.iom_traces.proofs.sights.sight_of.Goals as goal

pub returns-in-Some : goal.returns-in-Some
returns-in-Some c =
    let all : List (List ℕ) = map (λ word. word.now) c.deref.result.now in
    let taken : all ≡ take 15 (words_of c.in-Some.wish.now) = ap (λ items. map (λ word. word.now) items) c.deref.ensures.0 ∙ c.words.ensures in
    rw c.in-Some.is (saw_so c.sight_in.result _ _
    (λ seen h.
    let few = h.1 in
    let count : length all ≡ length c.deref.result.now = length-map c.deref.result.now (λ word. word.now) in
    let size : length all ≡ length (take 15 (words_of c.in-Some.wish.now)) = ap length taken in
    subst (λ (words : List (List ℕ)). IsSeen words seen) (taken ∙ all_taken 15 (words_of c.in-Some.wish.now) (omega (arith, few, count, size))) h.0)
    c.sight_in.ensures)
