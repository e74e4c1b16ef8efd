-- The values of hex digits.
use Rattle.std.proofs.Common.{◌≡◌, ℕ, ◌+◌, ◌-◌, ◌%◌, ◌^◌, ◌<◌, ◌≤◌, ◌&&◌, Bool, true, false, Option, Some, None, is_some, nat_lt, if◌then◌else◌, map, get_or, refl, sym, ap, subst, ◌∙◌, arith, ⊎_elim}
use Rattle.std.proofs.lemmas.Bool.{cases_lt, lt-ltb, le-ltb}
use Rattle.std.proofs.lemmas.Nat.{le_or_l, le_or_r, or_lt}
use Rattle.std.proofs.lemmas.List.FromFn.{get_or-map-range_with_len}
use Rattle.std.specs.Int.Bits.{bit_or}
use Rattle.std.specs.List.{range_with_len}
use Rattle.hex.specs.Hex.{hex_digit_value}

-- a byte from the digit 0 on, and from the letter a on, whatever its case is
abbrev from_zero : ℕ → ℕ
from_zero c = (c + (2 ^ 8 - 48)) % 2 ^ 8

abbrev from_a : ℕ → ℕ
from_a c = (bit_or c 32 + (2 ^ 8 - 97)) % 2 ^ 8

-- the value that they tell
abbrev value : ℕ → Option ℕ
value c = if nat_lt (from_zero c) 10 then Some (from_zero c) else if nat_lt (from_a c) 6 then Some (from_a c + 10) else None

all : map hex_digit_value (range_with_len 0 256) ≡ map value (range_with_len 0 256)
all = refl

told : (c : ℕ) → c < 256 → hex_digit_value c ≡ value c
told c below =
    sym (get_or-map-range_with_len hex_digit_value 0 256 c c None below (omega arith)) ∙ ap (λ table. get_or table c None) all
    ∙ get_or-map-range_with_len value 0 256 c c None below (omega arith)

pub of_digit : (c n : ℕ) → c < 256 → n ≡ from_zero c → n < 10 → hex_digit_value c ≡ Some n
of_digit c n byte is below =
    let small : nat_lt (from_zero c) 10 ≡ true = lt-ltb _ _ (subst (λ n. n < 10) is below) in
    told c byte ∙ rw small (ap Some (sym is))

pub of_letter : (c m n : ℕ) → c < 256 → m ≡ from_zero c → 10 ≤ m → n ≡ from_a c → n < 6 → hex_digit_value c ≡ Some (n + 10)
of_letter c m n byte first large is below =
    let no_digit : nat_lt (from_zero c) 10 ≡ false = le-ltb _ _ (subst (λ m. 10 ≤ m) first large) in
    let small : nat_lt (from_a c) 6 ≡ true = lt-ltb _ _ (subst (λ n. n < 6) is below) in
    told c byte ∙ rw (no_digit, small) (ap (λ n. Some (n + 10)) (sym is))

pub of_none : (c m n : ℕ) → c < 256 → m ≡ from_zero c → 10 ≤ m → n ≡ from_a c → 6 ≤ n → hex_digit_value c ≡ None
of_none c m n byte first large is above =
    let no_digit : nat_lt (from_zero c) 10 ≡ false = le-ltb _ _ (subst (λ m. 10 ≤ m) first large) in
    let no_letter : nat_lt (from_a c) 6 ≡ false = le-ltb _ _ (subst (λ n. 6 ≤ n) is above) in
    told c byte ∙ rw (no_digit, no_letter) refl

-- where what was met and two more values are below 16 together, each of them is
pub each_below : (met high low : ℕ) → bit_or met (bit_or high low) < 16 → (met < 16) × (high < 16) × (low < 16)
each_below met high low below =
    let pair : bit_or high low ≤ bit_or met (bit_or high low) = le_or_r met (bit_or high low) in (
      omega (arith, below, le_or_l met (bit_or high low)),
      omega (arith, below, pair, le_or_l high low),
      omega (arith, below, pair, le_or_r high low),
    )

and_false : (x : Bool) → x && false ≡ false
and_false true = refl
and_false false = refl

-- where they aren't and what was met is, one of the two is no digit
pub not_all : (met high low : ℕ) (x y : Option ℕ) → (16 ≤ high → x ≡ None) → (16 ≤ low → y ≡ None) → met < 16 →
    16 ≤ bit_or met (bit_or high low) → is_some x && is_some y ≡ false
not_all met high low x y first second few above =
    ⊎_elim
    (λ some. rw (first (omega (arith, some))) refl)
    (λ small. ⊎_elim
    (λ some. rw (second (omega (arith, some))) (and_false (is_some x)))
    (λ low_small. absurd (omega (arith, above, or_lt 4 met (bit_or high low) few (or_lt 4 high low (omega (arith, small)) (omega (arith, low_small))))))
    (cases_lt 15 low))
    (cases_lt 15 high)
