use Rattle.std.proofs.Common.{◌≡◌, ◌++◌, ◌+◌, ◌-◌, ◌*◌, suc, drop, subst, ◌∙◌, arith, length-set}
use Rattle.std.specs.Prelude.{slice_set, slice_index_or}
use Rattle.iom_text.specs.Texts.{digits_in}
use Rattle.iom_text.proofs.Digits.{first_of_pair, pair_before, second_of_pair}
use Rattle.iom_text.proofs.writing.put_pairs.Goals as goal

pub loop-i-preserved : goal.loop-i-preserved
loop-i-preserved c =
    let kept = c.loop-i.invariant in
    let at = c.loop-i.i - 1 in
    let high = slice_index_or c.digit_pair-pair.result 0 0 in
    let low = slice_index_or c.digit_pair-pair.result 1 0 in
    let after : 2 * c.loop-i.i ≡ suc (suc (2 * at)) = omega (arith, c.loop-i-test.true) in
    let next : 2 * at + 1 ≡ suc (2 * at) = omega arith in
    let now = pair_before c.loop-i.places (2 * at) c.loop-i.rest high low c.args.number
    (omega (arith, after, kept.same, kept.count, c.requires.count, c.requires.even, c.loop-i.auto.i))
    (kept.count ∙ after)
    (first_of_pair c.loop-i.rest c.digit_pair-pair.result c.digit_pair-pair.ensures)
    (second_of_pair c.loop-i.rest c.digit_pair-pair.result c.digit_pair-pair.ensures)
    (subst (λ n. digits_in 16 c.loop-i.rest ++ drop n c.loop-i.places ≡ digits_in 16 c.args.number) after kept.put) in
    record {
      same =
          length-set (slice_set c.loop-i.places (2 * at + 1) low) (2 * at) high ∙ length-set c.loop-i.places (2 * at + 1) low
          ∙ kept.same;
      count = now.0;
      put = rw next now.1;
    }
