-- What digits write.
use Rattle.std.proofs.Common.{◌≡◌, ◌+◌, ◌*◌, ◌%◌, ◌^◌, ◌<◌, ◌≤◌, ◌&&◌, ℕ, List, [], ◌∷◌, length, drop, get_or, Bool, true, false, Some, None, nat_lt, nat_eq, sym, ◌∙◌, ap, refl, arith, lit≤}
use Rattle.std.specs.Char.{is_digit, digit_value}
use Rattle.std.specs.List.{list_all}
use Rattle.std.specs.Str.Parse.{digits_value, digits_value_after}
use Rattle.std.proofs.lemmas.List.{drop_more, drop_all}
use Rattle.std.proofs.Math.Nat.{mul-le-mul_left, pow-le-pow_right}
use Rattle.std.proofs.lemmas.Grind.{common_steps, pow_more}
use Rattle.iom_text.specs.Words.{number_in}

-- one digit more behind fewer than 16
pub one_more_fits : (radix value at digit : ℕ) → radix ≤ 16 → digit < radix → at < 16 → value < 16 ^ at →
    (value * radix + digit < 16 ^ (at + 1)) × (16 ^ (at + 1) ≤ 2 ^ 64)
one_more_fits radix value at digit most below few small =
    let wide : value * radix ≤ value * 16 = mul-le-mul_left value most in
    let next : 16 ^ (at + 1) ≡ 16 ^ at * 16 = pow_more 16 at in
    let all : 16 ^ (at + 1) ≤ 16 ^ 16 = pow-le-pow_right (lit≤ tt) {j = 16} (omega arith) in
    (omega (arith, wide, next), omega (arith, all))

pub no_wrap : (n digit : ℕ) → n + digit < 2 ^ 64 → (n % 2 ^ 64 + digit) % 2 ^ 64 ≡ n + digit
no_wrap n digit fits = omega arith

pub few_fit : (value at : ℕ) → at ≤ 16 → value < 16 ^ at → value < 2 ^ 64
few_fit value at few small =
    let all : 16 ^ at ≤ 16 ^ 16 = pow-le-pow_right (lit≤ tt) {j = 16} few in
    omega (arith, all)

at_least : (radix value digit total : ℕ) → 1 ≤ radix → value * radix + digit ≤ total → value ≤ total
at_least radix value digit total some rest =
    omega (arith, mul-le-mul_left value some)

-- more digits write no less
no_less : (radix value : ℕ) (word : List ℕ) → 1 ≤ radix → value ≤ digits_value_after radix value word
no_less radix value [] some = omega arith
no_less radix value (c ∷ word) some =
    let rest : value * radix + digit_value c ≤ digits_value_after radix (value * radix + digit_value c) word =
    no_less radix (value * radix + digit_value c) word some in
    at_least radix value (digit_value c) (digits_value_after radix (value * radix + digit_value c) word) some rest

refused : (a b : Bool) (number : ℕ) → 2 ^ 64 ≤ number → a && b && nat_lt number (2 ^ 64) ≡ false
refused a b number large = grind (arith, common_steps)

pub too_large : (radix : ℕ) (word : List ℕ) (value at digit : ℕ) → 1 ≤ radix → at < length word →
    digits_value radix word ≡ digits_value_after radix value (drop at word) → digit ≡ digit_value (get_or word at 0) →
    2 ^ 64 ≤ value * radix + digit → None ≡ number_in radix word
unfolding number_in
too_large radix word value at digit some inside same is large =
    let more : value * radix + digit ≤ digits_value_after radix (value * radix + digit) (drop (at + 1) word) =
    no_less radix (value * radix + digit) (drop (at + 1) word) some in
    let step : digits_value radix word ≡ digits_value_after radix (value * radix + digit) (drop (at + 1) word) =
    same ∙ ap (digits_value_after radix value) (drop_more word at 0 inside)
    ∙ ap (λ d. digits_value_after radix (value * radix + d) (drop (at + 1) word)) (sym is) in
    let over : 2 ^ 64 ≤ digits_value radix word = omega (arith, step, more, large) in
    rw (refused (nat_lt 0 (length word)) (list_all (λ c. is_digit c radix) word) (digits_value radix word) over) refl

pub whole : (radix : ℕ) (word : List ℕ) (value at : ℕ) → length word ≤ at → nat_eq (length word) 0 ≡ false →
    digits_value radix word ≡ digits_value_after radix value (drop at word) →
    list_all (λ c. is_digit c radix) word ≡ list_all (λ c. is_digit c radix) (drop at word) →
    value < 2 ^ 64 → Some value ≡ number_in radix word
unfolding number_in
whole radix word value at past some number digits fits =
    let rest : drop at word ≡ [] = drop_all at word past in
    let is : digits_value radix word ≡ value = number ∙ ap (digits_value_after radix value) rest in
    let all : list_all (λ c. is_digit c radix) word ≡ true = digits ∙ ap (list_all (λ c. is_digit c radix)) rest in
    let there : nat_lt 0 (length word) ≡ true = grind arith in
    let small : nat_lt value (2 ^ 64) ≡ true = grind arith in
    rw (is, all, there, small) refl
