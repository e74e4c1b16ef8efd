use Rattle.std.proofs.Common.{◌≡◌, ◌∙◌, length, drop, ap, arith}
use Rattle.std.specs.List.{position_or_len}
use Rattle.std.proofs.lemmas.Grind.{common_steps}
use Rattle.iom_text.specs.Words.{is_end}
use Rattle.iom_text.proofs.Leading.{refused_front, refused_rest, whole_word}
use Rattle.iom_text.proofs.reading.number_in.Goals as goal

pub returns-in_err-value : goal.returns-in_err-value
returns-in_err-value c =
    c.from_residual.ensures ∙ refused_front c.args.radix c.args.word.now (omega arith) c.in_err-value.ensures.number

pub returns-else-is_empty : goal.returns-else-is_empty
returns-else-is_empty c =
    refused_rest c.args.radix c.args.word.now (omega arith)
    (λ none. let over : length c.in_ok-value.rest.now ≡ 0 = ap length c.in_ok-value.ensures.rest ∙ none in grind (arith, common_steps, over))

pub returns-then-is_empty : goal.returns-then-is_empty
returns-then-is_empty c =
    let over : length c.in_ok-value.rest.now ≡ 0 = grind (arith, common_steps) in
    let none : length (drop (position_or_len is_end c.args.word.now) c.args.word.now) ≡ 0 = omega (arith, ap length c.in_ok-value.ensures.rest, over) in
    whole_word c.args.radix c.in_ok-value.value c.args.word.now (omega arith) none c.in_ok-value.ensures.number
