use Rattle.std.proofs.Common.{◌≡◌, ◌∙◌, ℕ, List, length, map, take, ap, sym, arith}
use Rattle.std.proofs.lemmas.List.{length-map, length-take}
use Rattle.iom_text.specs.Words.{number}
use Rattle.iom_traces.proofs.Words.{cut, saw_so, seen_at}
use Rattle.iom_traces.proofs.sights.sight_at.Goals as goal

pub returns-in-Some : goal.returns-in-Some
returns-in-Some c =
    let all : List (List ℕ) = map (λ word. word.now) c.args.words.now in
    let count : length all ≡ length c.args.words.now = length-map c.args.words.now (λ word. word.now) in
    let last = c.requires.last in
    let size = length-take c.args.i c.args.words.now in
    saw_so c.seen_of.result _ _
    (λ seen h.
    let few = h.1 in (
      seen_at all (map (λ word. word.now) (take c.args.i c.args.words.now)) c.args.i c.in-Some.addr seen (omega (arith, last, count)) (cut (λ word. word.now) c.args.i c.args.words.now) c.requires.at
          (ap number (sym c.word_at.ensures) ∙ sym c.in-Some.ensures) h.0 h.2,
      omega (arith, few, size, last),
    )) c.seen_of.ensures
