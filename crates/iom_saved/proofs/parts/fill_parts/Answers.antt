use Rattle.std.proofs.Common.{◌≡◌, ◌<◌, ◌+◌, ◌∙◌, ◌++◌, [], ◌∷◌, length, take, arith}
use Rattle.std.specs.Prelude.{slice_set}
use Rattle.std.proofs.lemmas.List.{length-take-le}
use Rattle.iom_saved.specs.Kept.{IsPart}
use Rattle.iom_saved.specs.Requests.{part_words}
use Rattle.iom_saved.proofs.Pieces.{take_next}
use Rattle.iom_saved.proofs.Taken.{goes_on, length_set, take_set, went_on}
use Rattle.iom_saved.proofs.parts.fill_parts.Goals as goal

pub returns-in_err-parts-clause-taken : goal.returns-in_err-parts-clause-taken
returns-in_err-parts-clause-taken c = λ list rest are size each.
    let here : length (take c.loop-i.i c.loop-i.parts) ≡ c.loop-i.i =
    length-take-le c.loop-i.i c.loop-i.parts (omega (arith, c.loop-i-test.true, c.loop-i.auto.parts)) in
    let same : length list ≡ length c.loop-i.parts = omega (arith, size, c.loop-i.auto.parts) in
    let fewer : length (take c.loop-i.i c.loop-i.parts) < length list = omega (arith, here, size, c.loop-i-test.true, c.loop-i.auto.parts) in
    let next = goes_on part_words IsPart list (take c.loop-i.i c.loop-i.parts) rest c.loop-i.words (c.loop-i.invariant.went list rest are same each) fewer in
    absurd (c.in_err-parts.ensures.taken next.one _ next.left next.is)

pub loop-i-preserved : goal.loop-i-preserved
loop-i-preserved c =
    let within : c.loop-i.i < length c.loop-i.parts = omega (arith, c.loop-i-test.true, c.loop-i.auto.parts) in
    let one = c.in_ok-parts.field-0 in
    let put : take (c.loop-i.i + 1) (slice_set c.loop-i.parts c.loop-i.i one) ≡ take c.loop-i.i c.loop-i.parts ++ one ∷ [] =
    take_set c.loop-i.parts c.loop-i.i one within in
    record {
      read = rw put (take_next part_words (take c.loop-i.i c.loop-i.parts) one _ _ _ c.loop-i.invariant.read c.in_ok-parts.ensures.words);
      went = λ list rest are size each.
          let here : length (take c.loop-i.i c.loop-i.parts) ≡ c.loop-i.i = length-take-le c.loop-i.i c.loop-i.parts (omega (arith, within)) in
          let same : length list ≡ length c.loop-i.parts = size ∙ length_set c.loop-i.parts c.loop-i.i one in
          let fewer : length (take c.loop-i.i c.loop-i.parts) < length list = omega (arith, here, same, within) in
          let next = goes_on part_words IsPart list (take c.loop-i.i c.loop-i.parts) rest c.loop-i.words (c.loop-i.invariant.went list rest are same each) fewer in
          let part = c.in_ok-parts.ensures.taken next.one _ next.left next.is in
          went_on part_words IsPart list (take c.loop-i.i c.loop-i.parts) _ one rest c.loop-i.words _ next part.0 part.1 put;
    }
