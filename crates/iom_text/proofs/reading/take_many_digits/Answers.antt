use Rattle.std.proofs.Common.{◌≡◌, ◌+◌, ◌*◌, ◌^◌, ◌≤◌, length, drop, nat_eq, false, ◌∙◌, ap, arith}
use Rattle.std.specs.List.{position_or_len}
use Rattle.std.specs.Str.Parse.{digits_value_after}
use Rattle.std.proofs.lemmas.Grind.{common_steps}
use Rattle.iom_text.specs.Words.{is_end}
use Rattle.iom_text.proofs.Leading.{Goes, goes, no_digit, ends_here, empty, behind, bounded, long, the_word}
use Rattle.iom_text.proofs.Numbers.{too_large, whole}
use Rattle.iom_text.proofs.reading.take_many_digits.Goals as goal

pub returns-then-not-is_end-clause-number : goal.returns-then-not-is_end-clause-number
returns-then-not-is_end-clause-number c =
    no_digit c.args.radix c.args.text.now c.loop-at.at c.loop-at.invariant.within (omega arith) (grind (arith, common_steps)) c.in_default.ensures

pub returns-then-at-eq0-clause-number : goal.returns-then-at-eq0-clause-number
returns-then-at-eq0-clause-number c =
    let here : c.loop-at.at ≡ position_or_len is_end c.args.text.now =
    ends_here c.args.text.now c.loop-at.at c.loop-at.invariant.within (grind (arith, common_steps)) in
    empty c.args.radix c.args.text.now (omega (arith, here))

pub returns-in_default-clause-number : goal.returns-in_default-clause-number
returns-in_default-clause-number c =
    let here : c.loop-at.at ≡ position_or_len is_end c.args.text.now =
    ends_here c.args.text.now c.loop-at.at c.loop-at.invariant.within (grind (arith, common_steps)) in
    let some : nat_eq (length (the_word c.args.text.now)) 0 ≡ false = grind (arith, long c.args.text.now, here, c.if-at-eq0.false) in
    whole c.args.radix (the_word c.args.text.now) c.loop-at.value c.loop-at.at (omega (arith, long c.args.text.now, here)) some
    c.loop-at.invariant.value c.loop-at.invariant.digits c.loop-at.invariant.fits

pub returns-in_default-clause-rest : goal.returns-in_default-clause-rest
returns-in_default-clause-rest c =
    behind c.args.text.now c.loop-at.at (ends_here c.args.text.now c.loop-at.at c.loop-at.invariant.within (grind (arith, common_steps)))

pub returns-in_err-checked_mul-clause-number : goal.returns-in_err-checked_mul-clause-number
returns-in_err-checked_mul-clause-number c =
    let more : Goes c.args.radix c.args.text.now c.loop-at.value c.loop-at.at c.in-Some.digit =
    goes c.args.radix c.args.text.now c.loop-at.value c.loop-at.at c.in-Some.digit (omega arith) c.loop-at.invariant.within (omega arith) c.in-Some.ensures.0 c.in-Some.ensures.1 in
    let large : 2 ^ 64 ≤ c.loop-at.value * c.args.radix = omega (arith, c.in_err-checked_mul.ensures) in
    rw c.from_residual.ensures (too_large c.args.radix (the_word c.args.text.now) c.loop-at.value c.loop-at.at c.in-Some.digit
    (omega arith) more.inside c.loop-at.invariant.value more.is (omega (arith, large)))

pub returns-in_err-value-clause-number : goal.returns-in_err-value-clause-number
returns-in_err-value-clause-number c =
    let more : Goes c.args.radix c.args.text.now c.loop-at.value c.loop-at.at c.in-Some.digit =
    goes c.args.radix c.args.text.now c.loop-at.value c.loop-at.at c.in-Some.digit (omega arith) c.loop-at.invariant.within (omega arith) c.in-Some.ensures.0 c.in-Some.ensures.1 in
    let large : 2 ^ 64 ≤ c.in_ok-checked_mul.field-0 + c.in-Some.digit = omega (arith, c.in_err-value.ensures) in
    let over : 2 ^ 64 ≤ c.loop-at.value * c.args.radix + c.in-Some.digit = omega (arith, large, c.in_ok-checked_mul.ensures) in
    rw c.from_residual-in_err-value.ensures (too_large c.args.radix (the_word c.args.text.now) c.loop-at.value c.loop-at.at c.in-Some.digit
    (omega arith) more.inside c.loop-at.invariant.value more.is over)

pub loop-at-preserved : goal.loop-at-preserved
loop-at-preserved c =
    let more : Goes c.args.radix c.args.text.now c.loop-at.value c.loop-at.at c.in-Some.digit =
    goes c.args.radix c.args.text.now c.loop-at.value c.loop-at.at c.in-Some.digit (omega arith) c.loop-at.invariant.within (omega arith) c.in-Some.ensures.0 c.in-Some.ensures.1 in
    let sum : c.loop-at.value * c.args.radix + c.in-Some.digit ≡ c.in_ok-value.value = omega (arith, c.in_ok-checked_mul.ensures, c.in_ok-value.ensures) in
    record {
      within = omega (arith, more.inside, long c.args.text.now);
      value = c.loop-at.invariant.value ∙ more.goes ∙ ap (λ v. digits_value_after c.args.radix v (drop (c.loop-at.at + 1) (the_word c.args.text.now))) sum;
      digits = c.loop-at.invariant.digits ∙ more.digits;
      fits = omega (arith, c.in_ok-checked_mul.ensures, c.in_ok-value.ensures);
    }

pub returns-then-is_empty-clause-number : goal.returns-then-is_empty-clause-number
returns-then-is_empty-clause-number c =
    let none : length c.args.text.now ≡ 0 = grind (arith, common_steps) in
    empty c.args.radix c.args.text.now (omega (arith, bounded c.args.text.now, none))

pub returns-clause-number : goal.returns-clause-number
returns-clause-number c =
    let here : c.loop-at.at ≡ position_or_len is_end c.args.text.now = omega (arith, bounded c.args.text.now, c.loop-at.invariant.within) in
    let some : nat_eq (length (the_word c.args.text.now)) 0 ≡ false = grind (arith, common_steps, long c.args.text.now, here) in
    whole c.args.radix (the_word c.args.text.now) c.loop-at.value c.loop-at.at (omega (arith, long c.args.text.now, here)) some
    c.loop-at.invariant.value c.loop-at.invariant.digits c.loop-at.invariant.fits
