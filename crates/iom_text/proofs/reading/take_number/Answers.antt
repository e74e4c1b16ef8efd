use Rattle.std.proofs.Common.{◌≡◌, ◌∙◌, bytes_eq, codes, take, drop, true, false, sym, ap}
use Rattle.std.specs.List.{position_or_len}
use Rattle.iom_text.specs.Words.{is_end, words_of, number_in}
use Rattle.iom_text.proofs.Cuts.{past}
use Rattle.iom_text.proofs.Firsts.{all_left, hexed_number, hexed_rest, plain_number, plain_rest, then_rest}
use Rattle.iom_text.proofs.Leading.{the_word}
use Rattle.iom_text.proofs.reading.take_number.Goals as goal

pub returns-then-has_hex_prefix-clause-number : goal.returns-then-has_hex_prefix-clause-number
returns-then-has_hex_prefix-clause-number c =
    let word = c.past_blanks-word.result.now in
    let is : word ≡ past c.args.text.now = c.past_blanks-word.ensures in
    let hex : bytes_eq (take 2 (past c.args.text.now)) (codes "0x") ≡ true =
    ap (λ l. bytes_eq (take 2 l) (codes "0x")) (sym is) ∙ sym c.has_hex_prefix.ensures ∙ c.if-has_hex_prefix.true in
    c.take_digits.ensures.number
    ∙ ap (λ l. number_in 16 (the_word l)) (all_left word ∙ ap (drop 2) is) ∙ hexed_number c.args.text.now hex

pub returns-then-has_hex_prefix-clause-rest : goal.returns-then-has_hex_prefix-clause-rest
returns-then-has_hex_prefix-clause-rest c =
    let word = c.past_blanks-word.result.now in
    let is : word ≡ past c.args.text.now = c.past_blanks-word.ensures in
    let hex : bytes_eq (take 2 (past c.args.text.now)) (codes "0x") ≡ true =
    ap (λ l. bytes_eq (take 2 l) (codes "0x")) (sym is) ∙ sym c.has_hex_prefix.ensures ∙ c.if-has_hex_prefix.true in
    then_rest c.take_digits.result _ _ _ c.take_digits.ensures.number c.take_digits.ensures.rest
    (λ value some. ap (λ l. words_of (drop (position_or_len is_end l) l)) (all_left word ∙ ap (drop 2) is) ∙ hexed_rest c.args.text.now hex)

pub returns-else-has_hex_prefix-clause-number : goal.returns-else-has_hex_prefix-clause-number
returns-else-has_hex_prefix-clause-number c =
    let is : c.past_blanks-word.result.now ≡ past c.args.text.now = c.past_blanks-word.ensures in
    let plain : bytes_eq (take 2 (past c.args.text.now)) (codes "0x") ≡ false =
    ap (λ l. bytes_eq (take 2 l) (codes "0x")) (sym is) ∙ sym c.has_hex_prefix.ensures ∙ c.if-has_hex_prefix.false in
    c.take_digits-else-has_hex_prefix.ensures.number
    ∙ ap (λ l. number_in 10 (the_word l)) is ∙ plain_number c.args.text.now plain

pub returns-else-has_hex_prefix-clause-rest : goal.returns-else-has_hex_prefix-clause-rest
returns-else-has_hex_prefix-clause-rest c =
    let is : c.past_blanks-word.result.now ≡ past c.args.text.now = c.past_blanks-word.ensures in
    then_rest c.take_digits-else-has_hex_prefix.result _ _ _ c.take_digits-else-has_hex_prefix.ensures.number c.take_digits-else-has_hex_prefix.ensures.rest
    (λ value some. ap (λ l. words_of (drop (position_or_len is_end l) l)) is
    ∙ plain_rest c.args.text.now value (some ∙ ap (λ l. number_in 10 (the_word l)) is))
