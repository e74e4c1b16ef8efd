-- Operands of lines: data that is the rest of its line, and the words of an item.
use Rattle.std.proofs.Common.{◌≡◌, ◌<◌, nat_le, Bool, get_or, inl, inr, ℕ, suc, List, [], ◌∷◌, Some, false, true, length, take, sym, ap, subst, refl, arith}
use Rattle.iom_text.specs.Words.{is_end, words_of}
use Rattle.std.specs.List.{list_all}
use Rattle.hex.specs.Hex.{is_hex_digit}
use Rattle.std.proofs.lemmas.Bool.{cases_lt}
use Rattle.std.proofs.lemmas.Grind.{common_steps}
use Rattle.std.proofs.lemmas.List.{nil_from_length}
use Rattle.std.proofs.lemmas.List.Sums.{AllPass-from_list_all}
use Rattle.iom_text.proofs.Cuts.{past}
use Rattle.iom_text.proofs.Firsts.{one_word_left}
use Rattle.iom_tool.specs.Operands.{IsData}
use Rattle.iom_ddt.specs.declared.formats.ContextFormat.{ContextFormat}
use Rattle.iom_items.specs.Forms.{where_so, words_for}
use Rattle.iom_tool.specs.Script.{item_words}
use Rattle.iom_tool.specs.Words.{bytes_of}
use Rattle.iom_tool.proofs.Pairs.{no_bytes}

pub no_hex : (c : ℕ) → c < 48 → is_hex_digit c ≡ false
no_hex c less =
    let upper : nat_le 65 c ≡ false = grind arith in
    let lower : nat_le 97 c ≡ false = grind arith in
    let digit : nat_le 48 c ≡ false = grind arith in
    rw (upper, lower, digit) refl

small : (c : ℕ) → is_end c ≡ true → c < 48
small c end = grind (arith, common_steps)

by_end : (c : ℕ) (b : Bool) → is_end c ≡ b → is_hex_digit c ≡ true → b ≡ false
by_end c true end digit = cc (digit, no_hex c (small c end))
by_end c false end digit = refl

-- hex digits to the end of the line are one word
one_word : (text bytes : List ℕ) → list_all is_hex_digit (past text) ≡ true → bytes_of (past text) ≡ Some bytes → IsData (words_of text) bytes
unfolding bytes_of
one_word text bytes digits is =
    elim (cases_lt 0 (length (past text))) as (λ _. IsData (words_of text) bytes) [
      | inl some ↦ subst (λ ws. IsData ws bytes)
          (sym (one_word_left text (λ k below. by_end (get_or (past text) k 0) _ refl (AllPass-from_list_all is_hex_digit (past text) digits k 0 below)) some)) is
      | inr none ↦
          let empty : past text ≡ [] = nil_from_length (past text) (omega arith) in
          absurd (cc (ap bytes_of empty, is))
    ]

-- what they write is the line's data
pub data_left : (text bytes : List ℕ) → bytes_of (past text) ≡ Some bytes → IsData (words_of text) bytes
data_left text bytes is = by_digits (list_all is_hex_digit (past text)) refl where
  by_digits : (all : Bool) → list_all is_hex_digit (past text) ≡ all → IsData (words_of text) bytes
  by_digits true digits = one_word text bytes digits is
  by_digits false other = absurd (cc (no_bytes (past text) other, is))

-- one operand more than there may be tells that there are too many
limited : (n : ℕ) (name : List ℕ) (operands : List (List ℕ)) →
    where_so (nat_le (length (take (suc n) operands)) n) (words_for ContextFormat.Base name (take (suc n) operands))
    ≡ where_so (nat_le (length operands) n) (words_for ContextFormat.Base name operands)
limited n name operands = by (nat_le (length operands) n) refl where
  by : (b : Bool) → nat_le (length operands) n ≡ b → where_so (nat_le (length (take (suc n) operands)) n) (words_for ContextFormat.Base name (take (suc n) operands))
      ≡ where_so (nat_le (length operands) n) (words_for ContextFormat.Base name operands)
  by true few =
      let all : take (suc n) operands ≡ operands = grind (arith, common_steps) in rw all refl
  by false many =
      let cut : nat_le (length (take (suc n) operands)) n ≡ false = grind (arith, common_steps) in rw (cut, many) refl

-- fifteen words tell an item
pub enough_for_item : (words : List (List ℕ)) → item_words (take 15 words) ≡ item_words words
unfolding item_words
enough_for_item [] = refl
enough_for_item (name ∷ operands) = limited 13 name operands

pub none_left : words_of [] ≡ []
unfolding words_of
none_left = refl
