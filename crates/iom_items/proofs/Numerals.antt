-- The text of a number is read as that number.
use Rattle.std.proofs.Common.{◌≡◌, ℕ, ◌+◌, ◌<◌, ◌≤◌, ◌^◌, ◌==◌, Bool, true, false, not, nat_lt, List, [], ◌∷◌, length, map, codes, Some, refl, sym, ap, ◌∙◌, arith}
use Rattle.std.specs.List.{list_all, AllByRecursion}
use Rattle.std.specs.Fmt.{digit_glyph}
use Rattle.std.specs.Char.{is_digit, digit_value}
use Rattle.std.specs.Int.Digits.{digits_of, number_from_digits}
use Rattle.std.specs.Str.Parse.{digits_value}
use Rattle.std.proofs.lemmas.Bool.{and_from, cond_both, lt-ltb, ltb-true, ltb-false, eqb-true}
use Rattle.std.proofs.lemmas.List.{length-map}
use Rattle.std.proofs.lemmas.Int.Digits.{all_below_base_digits_of, digits_value_is, number_digits_of, length-digits_of_step}
use Rattle.std.proofs.lemmas.Grind.{common_steps}
use Rattle.iom_text.specs.Texts.{hexadecimal, numeral, digits_in}
use Rattle.iom_text.specs.Words.{is_end, number_in, number}

low_digit : (d : ℕ) → d < 10 → digit_value (48 + d) ≡ d
low_digit d lt = grind (arith, common_steps, lt)

high_digit : (d : ℕ) → 10 ≤ d → d < 16 → digit_value (87 + d) ≡ d
high_digit d le lt = grind (arith, common_steps, le, lt)

glyph_read : (d : ℕ) → d < 16 → digit_value (digit_glyph false d) ≡ d
glyph_read d lt =
    cond_both (nat_lt d 10) (48 + d) (87 + d) (λ c. digit_value c ≡ d) (λ is. low_digit d (ltb-true d 10 is))
    (λ is. high_digit d (ltb-false d 10 is) lt)

glyphs_read : (digits : List ℕ) → AllByRecursion (λ d. d < 16) digits → map digit_value (map (digit_glyph false) digits) ≡ digits
glyphs_read [] small = refl
glyphs_read (d ∷ digits) small = rw (glyph_read d small.0, glyphs_read digits small.1) refl

are_digits : (digits : List ℕ) → AllByRecursion (λ d. d < 16) digits →
    list_all (λ c. is_digit c 16) (map (digit_glyph false) digits) ≡ true
are_digits [] small = refl
are_digits (d ∷ digits) small =
    and_from (is_digit (digit_glyph false d) 16) (list_all (λ c. is_digit c 16) (map (digit_glyph false) digits))
    (rw (glyph_read d small.0) (lt-ltb d 16 small.0)) (are_digits digits small.1)

-- no byte of a text ends a word
abbrev pub is_word : List ℕ → Bool
is_word text = list_all (λ c. not (is_end c)) text

no_end : (c : ℕ) → 36 ≤ c → not (is_end c) ≡ true
no_end c le = grind (arith, common_steps, le)

glyph_inside : (d : ℕ) → not (is_end (digit_glyph false d)) ≡ true
glyph_inside d =
    cond_both (nat_lt d 10) (48 + d) (87 + d) (λ c. not (is_end c) ≡ true) (λ _. no_end (48 + d) (omega arith)) (λ _. no_end (87 + d) (omega arith))

glyphs_inside : (digits : List ℕ) → is_word (map (digit_glyph false) digits) ≡ true
glyphs_inside [] = refl
glyphs_inside (d ∷ digits) =
    and_from (not (is_end (digit_glyph false d))) (is_word (map (digit_glyph false) digits)) (glyph_inside d) (glyphs_inside digits)

pub hexed_inside : (n : ℕ) → is_word (hexadecimal n) ≡ true
hexed_inside n =
    cond_both (n == 0) (codes "0") (digits_in 16 n) (λ text. is_word text ≡ true) (λ _. refl) (λ _. glyphs_inside (digits_of 16 n))

digits_some : (n : ℕ) → 0 < n → 0 < length (digits_in 16 n)
digits_some n some =
    omega (arith, length-map (digits_of 16 n) (digit_glyph false), length-digits_of_step 16 n (omega arith) some)

digits_write : (n : ℕ) → digits_value 16 (digits_in 16 n) ≡ n
digits_write n =
    digits_value_is 16 (digits_in 16 n)
    ∙ ap (number_from_digits 16) (glyphs_read (digits_of 16 n) (all_below_base_digits_of 16 n (omega arith)))
    ∙ number_digits_of 16 n (omega arith)

-- digits write a number
writes : (word : List ℕ) (n : ℕ) → 0 < length word → list_all (λ c. is_digit c 16) word ≡ true → digits_value 16 word ≡ n → n < 2 ^ 64 →
    number_in 16 word ≡ Some n
unfolding number_in
writes word n some all is fits =
    rw (lt-ltb 0 (length word) some, all, is, lt-ltb n (2 ^ 64) fits) refl

numeral_read : (n : ℕ) → n < 2 ^ 64 → number_in 16 (numeral 16 n) ≡ Some n
numeral_read n fits =
    cond_both (n == 0) (codes "0") (digits_in 16 n) (λ text. number_in 16 text ≡ Some n)
    (λ is. writes (codes "0") n (omega arith) refl (sym (eqb-true n 0 is)) fits)
    (λ other. writes (digits_in 16 n) n (digits_some n (grind (arith, other)))
    (are_digits (digits_of 16 n) (all_below_base_digits_of 16 n (omega arith))) (digits_write n) fits)

pub hexed_read : (n : ℕ) → n < 2 ^ 64 → number (hexadecimal n) ≡ Some n
unfolding number
hexed_read n fits = numeral_read n fits
