use Rattle.std.proofs.Common.{◌≡◌, ◌<◌, ◌≤◌, ◌^◌, take, drop}
use Rattle.std.specs.Char.{is_digit}
use Rattle.std.specs.List.{list_all, position_or_len}
use Rattle.std.specs.Str.Parse.{digits_value, digits_value_after}
use Rattle.iom_text.specs.Words.{is_end}
use Rattle.iom_text.proofs.reading.take_digits.Given as goal

-- the word goes on; what is left of it decides whether all are digits, and gives the number where there were few
abbrev pub invariant-loop-at : goal.invariant-loop-at
invariant-loop-at l =
    let word = take (position_or_len is_end l.text) l.text in
    record {
      within : l.at ≤ position_or_len is_end l.text;
      digits : list_all (λ c. is_digit c l.radix) word ≡ list_all (λ c. is_digit c l.radix) (drop l.at word);
      small : l.at ≤ 16 → l.value < 16 ^ l.at;
      value : l.at ≤ 16 → digits_value l.radix word ≡ digits_value_after l.radix l.value (drop l.at word);
    }
