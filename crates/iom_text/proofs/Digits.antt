-- The digits of a number, written from the front.
use Rattle.std.proofs.Common.{◌≡◌, ◌+◌, ◌*◌, ◌/◌, ◌%◌, ◌^◌, ◌<◌, ◌≤◌, ◌++◌, ℕ, zero, suc, refl, pow-suc, codes, take, drop, slice_set, slice_index_or, sym, List, [], ◌∷◌, length, map, false, ◌∙◌, ap, subst, arith, append_assoc, length-append, length-set}
use Rattle.std.proofs.Math.Nat.{one-le-pow, pow-zero}
use Rattle.std.proofs.Math.Pow.{pow_mono}
use Rattle.std.proofs.lemmas.Nat.{pow-add}
use Rattle.std.specs.Fmt.{digit_glyph}
use Rattle.std.specs.Int.Digits.{digits_of}
use Rattle.std.proofs.lemmas.List.{map-append, length-map, take-append-le, take_all}
use Rattle.std.proofs.lemmas.Int.Digits.{digits_of_step, length-digits_of_step, length-digits_of-le}
use Rattle.iom_text.specs.Texts.{digits_in}

pub last_written : (radix number glyph : ℕ) (before now : List ℕ) → 2 ≤ radix → 0 < number →
    now ≡ before ++ digits_in radix (number / radix) → glyph ≡ digit_glyph false (number % radix) →
    now ++ glyph ∷ [] ≡ before ++ digits_in radix number
last_written radix number glyph before now least some is last =
    let all : digits_in radix number ≡ digits_in radix (number / radix) ++ digit_glyph false (number % radix) ∷ [] =
    ap (map (digit_glyph false)) (digits_of_step radix number least some)
    ∙ map-append (digit_glyph false) (digits_of radix (number / radix)) (number % radix ∷ []) in
    rw (is, last, all) (append_assoc before (digits_in radix (number / radix)) (digit_glyph false (number % radix) ∷ []))

sixteen : (k : ℕ) → 16 ^ k ≡ 2 ^ (4 * k)
sixteen zero = refl
sixteen (suc k) =
    let four : 4 * suc k ≡ 4 + 4 * k = omega arith in
    pow-suc 16 k ∙ omega (arith, sixteen k, pow-add 2 4 (4 * k), ap (λ n. 2 ^ n) four)

many_digits : (k number : ℕ) → 16 ^ k ≤ number → k < length (digits_of 16 number)
many_digits zero number some = omega (arith, pow-zero 16, length-digits_of_step 16 number (omega arith) (omega (arith, pow-zero 16)))
many_digits (suc k) number some =
    let enough : 16 ^ k ≤ number / 16 = omega (arith, pow-suc 16 k) in
    let positive : 0 < number = omega (arith, pow-suc 16 k, one-le-pow k 16 (omega arith)) in
    omega (arith, many_digits k (number / 16) enough, length-digits_of_step 16 number (omega arith) positive)

many_decimal : (k number : ℕ) → 10 ^ k ≤ number → k < length (digits_of 10 number)
many_decimal zero number some = omega (arith, pow-zero 10, length-digits_of_step 10 number (omega arith) (omega (arith, pow-zero 10)))
many_decimal (suc k) number some =
    let enough : 10 ^ k ≤ number / 10 = omega (arith, pow-suc 10 k) in
    let positive : 0 < number = omega (arith, pow-suc 10 k, one-le-pow k 10 (omega arith)) in
    omega (arith, many_decimal k (number / 10) enough, length-digits_of_step 10 number (omega arith) positive)

-- how many decimal digits a number has, by the power of ten that is at most as large
pub counted_decimal : (number power : ℕ) → 10 ^ power ≤ number → number < 10 * 10 ^ power → power + 1 ≡ length (digits_of 10 number)
counted_decimal number power least most =
    let above : number < 10 ^ suc power = omega (arith, pow-suc 10 power) in
    omega (arith, many_decimal power number least, length-digits_of-le 10 (suc power) number (omega arith) above)

below_next : (number highest : ℕ) → number < 2 * 2 ^ highest → number < 16 ^ suc (highest / 4)
below_next number highest most =
    let double : 2 ^ (1 + highest) ≡ 2 * 2 ^ highest = pow-add 2 1 highest in
    omega (arith, sixteen (suc (highest / 4)), double, pow_mono {i = 1 + highest} {j = 4 * suc (highest / 4)} (omega arith))

-- how many hex digits a number has, by the place of its highest bit
pub counted : (number highest : ℕ) → 2 ^ highest ≤ number → number < 2 * 2 ^ highest → highest / 4 + 1 ≡ length (digits_of 16 number)
counted number highest least most =
    let k = highest / 4 in
    let below : 16 ^ k ≤ number = omega (arith, sixteen k, pow_mono {i = 4 * k} {j = highest} (omega arith)) in
    omega (arith, many_digits k number below, length-digits_of-le 16 (suc k) number (omega arith) (below_next number highest most))

-- a number is below 16 to the power of that count
pub counted_below : (number highest : ℕ) → number < 2 * 2 ^ highest → number < 16 ^ (highest / 4 + 1)
counted_below number highest most =
    let next : suc (highest / 4) ≡ highest / 4 + 1 = omega arith in
    subst (λ k. number < 16 ^ k) next (below_next number highest most)

-- a number of at most 15 hex digits has room for one more
pub has_room : (number count : ℕ) → number < 16 ^ count → count ≤ 15 → number * 16 < 2 ^ 64
has_room number count below few = omega (arith, sixteen count, pow_mono {i = 4 * count} {j = 60} (omega arith))

one_more : (number : ℕ) → 0 < number → digits_of 16 (number * 16) ≡ digits_of 16 number ++ 0 ∷ []
one_more number some =
    let before : number * 16 / 16 ≡ number = omega arith in
    let last : number * 16 % 16 ≡ 0 = omega arith in
    rw (before, last) at (digits_of_step 16 (number * 16) (omega arith) (omega arith))

pub one_more_counted : (number : ℕ) → 0 < number → length (digits_of 16 (number * 16)) ≡ length (digits_of 16 number) + 1
one_more_counted number some = ap length (one_more number some) ∙ length-append (digits_of 16 number) (0 ∷ [])

pub front_of : (count : ℕ) (front rest all : List ℕ) → all ≡ front ++ rest → count ≡ length front → take count all ≡ front
front_of count front rest all is counted = rw is (take-append-le count front rest (omega (arith, counted)) ∙ take_all count front (omega (arith, counted)))

pub front_all : (number count : ℕ) → count ≡ length (digits_of 16 number) → take count (digits_in 16 number) ≡ digits_in 16 number
front_all number count is =
    take_all count (digits_in 16 number) (omega (arith, is, length-map (digits_of 16 number) (digit_glyph false)))

-- the hex digits before one more
pub one_more_left : (number count : ℕ) → 0 < number → count ≡ length (digits_of 16 number) →
    take count (digits_in 16 (number * 16)) ≡ digits_in 16 number
one_more_left number count some is =
    let all : digits_in 16 (number * 16) ≡ digits_in 16 number ++ digit_glyph false 0 ∷ [] =
    ap (map (digit_glyph false)) (one_more number some) ∙ map-append (digit_glyph false) (digits_of 16 number) (0 ∷ []) in
    front_of count (digits_in 16 number) _ _ all (is ∙ sym (length-map (digits_of 16 number) (digit_glyph false)))

pub zero_put : (places : List ℕ) → 0 < length places → take 1 (slice_set places 0 48) ≡ codes "0"
zero_put [] some = absurd (omega arith)
zero_put (place ∷ places) some = refl

some_of : (radix number : ℕ) → 0 < length (digits_of radix number) → 0 < number
some_of radix zero some = some
some_of radix (suc number) some = omega arith

from_put : (places : List ℕ) (k glyph : ℕ) → k < length places → drop k (slice_set places k glyph) ≡ glyph ∷ drop (suc k) places
from_put [] k glyph few = absurd (omega arith)
from_put (place ∷ places) zero glyph few = refl
from_put (place ∷ places) (suc k) glyph few = from_put places k glyph (omega arith)

-- the digits put so far, once another one stands before them
pub put_before : (radix : ℕ) (places : List ℕ) (at rest glyph number : ℕ) → 2 ≤ radix → at < length places →
    length (digits_of radix rest) ≡ suc at →
    glyph ≡ digit_glyph false (rest % radix) → digits_in radix rest ++ drop (suc at) places ≡ digits_in radix number →
    (length (digits_of radix (rest / radix)) ≡ at)
    × (digits_in radix (rest / radix) ++ drop at (slice_set places at glyph) ≡ digits_in radix number)
put_before radix places at rest glyph number least within count last is =
    let positive : 0 < rest = some_of radix rest (omega (arith, count)) in (
      omega (arith, count, length-digits_of_step radix rest least positive),
      ap (λ l. digits_in radix (rest / radix) ++ l) (from_put places at glyph within)
          ∙ sym (append_assoc (digits_in radix (rest / radix)) (glyph ∷ []) (drop (suc at) places))
          ∙ ap (λ l. l ++ drop (suc at) places) (last_written radix rest glyph [] (digits_in radix (rest / radix)) least positive refl last)
          ∙ is,
    )

-- the hex digits put so far, once two others stand before them
pub pair_before : (places : List ℕ) (at rest high low number : ℕ) → suc at < length places → length (digits_of 16 rest) ≡ suc (suc at) →
    high ≡ digit_glyph false (rest / 16 % 16) → low ≡ digit_glyph false (rest % 16) →
    digits_in 16 rest ++ drop (suc (suc at)) places ≡ digits_in 16 number →
    (length (digits_of 16 (rest / 256)) ≡ at)
    × (digits_in 16 (rest / 256) ++ drop at (slice_set (slice_set places (suc at) low) at high) ≡ digits_in 16 number)
pair_before places at rest high low number within count first last is =
    let twice : rest / 16 / 16 ≡ rest / 256 = omega arith in
    let one = put_before 16 places (suc at) rest low number (omega arith) within count last is in
    rw twice at (put_before 16 (slice_set places (suc at) low) at (rest / 16) high number (omega arith)
    (omega (arith, length-set places (suc at) low)) one.0 first one.1)

-- the digits of the lowest byte
pub first_of_pair : (rest : ℕ) (pair : List ℕ) → pair ≡ digit_glyph false (rest % 256 / 16) ∷ digit_glyph false (rest % 256 % 16) ∷ [] →
    slice_index_or pair 0 0 ≡ digit_glyph false (rest / 16 % 16)
first_of_pair rest pair is =
    let same : rest % 256 / 16 ≡ rest / 16 % 16 = omega arith in
    ap (λ l. slice_index_or l 0 0) is ∙ ap (digit_glyph false) same

pub second_of_pair : (rest : ℕ) (pair : List ℕ) → pair ≡ digit_glyph false (rest % 256 / 16) ∷ digit_glyph false (rest % 256 % 16) ∷ [] →
    slice_index_or pair 1 0 ≡ digit_glyph false (rest % 16)
second_of_pair rest pair is =
    let same : rest % 256 % 16 ≡ rest % 16 = omega arith in
    ap (λ l. slice_index_or l 1 0) is ∙ ap (digit_glyph false) same
