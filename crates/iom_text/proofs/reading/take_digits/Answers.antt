use Rattle.std.proofs.Common.{◌≡◌, ◌+◌, ◌*◌, ◌<◌, ◌≤◌, length, drop, nat_eq, false, ◌∙◌, ap, sym, arith}
use Rattle.std.specs.List.{position_or_len}
use Rattle.std.specs.Str.Parse.{digits_value_after}
use Rattle.std.proofs.lemmas.Grind.{common_steps}
use Rattle.iom_text.specs.Words.{is_end}
use Rattle.iom_text.proofs.Leading.{Goes, goes, no_digit, ends_here, empty, bounded, long, the_word}
use Rattle.iom_text.proofs.Numbers.{few_fit, no_wrap, one_more_fits, whole}
use Rattle.iom_text.proofs.reading.take_digits.Goals as goal

pub returns-then-not-is_end-clause-number : goal.returns-then-not-is_end-clause-number
returns-then-not-is_end-clause-number c =
    no_digit c.args.radix c.args.text.now c.loop-at.at c.loop-at.invariant.within (omega arith) (grind (arith, common_steps)) c.in_default.ensures

pub returns-then-at-eq0-clause-number : goal.returns-then-at-eq0-clause-number
returns-then-at-eq0-clause-number c =
    let here : c.loop-at.at ≡ position_or_len is_end c.args.text.now =
    ends_here c.args.text.now c.loop-at.at c.loop-at.invariant.within (grind (arith, common_steps)) in
    empty c.args.radix c.args.text.now (omega (arith, here))

pub cut_at-requires-clause-here : goal.cut_at-requires-clause-here
cut_at-requires-clause-here c =
    ends_here c.args.text.now c.loop-at.at c.loop-at.invariant.within (grind (arith, common_steps))

pub cut_at-requires-clause-few : goal.cut_at-requires-clause-few
cut_at-requires-clause-few c = λ few.
    let here : c.loop-at.at ≡ position_or_len is_end c.args.text.now =
    ends_here c.args.text.now c.loop-at.at c.loop-at.invariant.within (grind (arith, common_steps)) in
    let some : nat_eq (length (the_word c.args.text.now)) 0 ≡ false = grind (arith, long c.args.text.now, here, c.if-at-eq0.false) in
    whole c.args.radix (the_word c.args.text.now) c.loop-at.value c.loop-at.at (omega (arith, long c.args.text.now, here)) some
    (c.loop-at.invariant.value few) c.loop-at.invariant.digits (few_fit c.loop-at.value c.loop-at.at few (c.loop-at.invariant.small few))

pub loop-at-preserved : goal.loop-at-preserved
loop-at-preserved c =
    let small : c.in-Some.digit < c.args.radix = omega (arith, c.in-Some.ensures.0, c.in-Some.ensures.1) in
    let more : Goes c.args.radix c.args.text.now c.loop-at.value c.loop-at.at c.in-Some.digit =
    goes c.args.radix c.args.text.now c.loop-at.value c.loop-at.at c.in-Some.digit (omega arith) c.loop-at.invariant.within (omega arith) c.in-Some.ensures.0 c.in-Some.ensures.1 in
    record {
      within = omega (arith, more.inside, long c.args.text.now);
      digits = c.loop-at.invariant.digits ∙ more.digits;
      small = λ few.
          let fits = one_more_fits c.args.radix c.loop-at.value c.loop-at.at c.in-Some.digit (omega arith) small (omega (arith, few)) (c.loop-at.invariant.small (omega (arith, few))) in
          omega (arith, no_wrap (c.loop-at.value * c.args.radix) c.in-Some.digit (omega (arith, fits.0, fits.1)), fits.0);
      value = λ few.
          let fits = one_more_fits c.args.radix c.loop-at.value c.loop-at.at c.in-Some.digit (omega arith) small (omega (arith, few)) (c.loop-at.invariant.small (omega (arith, few))) in
          c.loop-at.invariant.value (omega (arith, few)) ∙ more.goes
          ∙ ap (λ v. digits_value_after c.args.radix v (drop (c.loop-at.at + 1) (the_word c.args.text.now)))
          (sym (no_wrap (c.loop-at.value * c.args.radix) c.in-Some.digit (omega (arith, fits.0, fits.1))));
    }

pub returns-then-is_empty-clause-number : goal.returns-then-is_empty-clause-number
returns-then-is_empty-clause-number c =
    let none : length c.args.text.now ≡ 0 = grind (arith, common_steps) in
    empty c.args.radix c.args.text.now (omega (arith, bounded c.args.text.now, none))

pub cut_at-requires-2-clause-few : goal.cut_at-requires-2-clause-few
cut_at-requires-2-clause-few c = λ few.
    let here : c.loop-at.at ≡ position_or_len is_end c.args.text.now = omega (arith, bounded c.args.text.now, c.loop-at.invariant.within) in
    let some : nat_eq (length (the_word c.args.text.now)) 0 ≡ false = grind (arith, common_steps, long c.args.text.now, here) in
    let less : c.loop-at.at ≤ 16 = omega (arith, few, bounded c.args.text.now, c.loop-at.invariant.within) in
    whole c.args.radix (the_word c.args.text.now) c.loop-at.value c.loop-at.at (omega (arith, long c.args.text.now, here)) some
    (c.loop-at.invariant.value less) c.loop-at.invariant.digits (few_fit c.loop-at.value c.loop-at.at less (c.loop-at.invariant.small less))
