-- The bytes of a number: byte j of n is n / 2 ^ (8 * j) % 256.
use Rattle.std.proofs.Common.{◌≡◌, ◌+◌, ◌-◌, ◌*◌, ◌/◌, ◌%◌, ◌^◌, ◌<◌, ◌≤◌, ℕ, zero, suc, List, [], ◌∷◌, length, get_or, take, drop, inl, inr, length-take, length-drop, get_or-take, get_or-drop, sym, ◌∙◌, ap, refl, arith, mul_assoc, add-zero, bit_or}
use Rattle.std.proofs.lemmas.Nat.{pow_pos, pow-add, shr-shr, shr_split, shr_high, mod_below, mod_low, field_of, mod-pow-add, shr_below, or_shifted, shl-shr, one_shl}
use Rattle.std.proofs.lemmas.List.{get_or_past}
use Rattle.std.proofs.lemmas.Bool.{cases_lt}
use Rattle.iom_bits.specs.Bits.{with_field_of}
use Rattle.iom_bits.specs.Bytes.{number_of_bytes, bytes_of_number}

-- byte j of a number
abbrev pub digit : ℕ → ℕ → ℕ
digit n j = n / 2 ^ (8 * j) % 256

pub length-bytes_of_number : (count n : ℕ) → length (bytes_of_number count n) ≡ count
length-bytes_of_number zero n = refl
length-bytes_of_number (suc count) n = ap suc (length-bytes_of_number count (n / 256))

digit_zero : (n : ℕ) → n % 256 ≡ digit n 0
digit_zero n = omega arith

pub digit_more : (n j : ℕ) → digit (n / 256) j ≡ digit n (suc j)
digit_more n j =
    let place : 8 + 8 * j ≡ 8 * suc j = omega arith in
    ap (λ m. m % 256) (shr-shr n 8 (8 * j) ∙ ap (λ k. n / 2 ^ k) place)

pub digit_of_number : (count n j : ℕ) → j < count → get_or (bytes_of_number count n) j 0 ≡ digit n j
digit_of_number zero n j h = absurd (omega arith)
digit_of_number (suc count) n zero h = digit_zero n
digit_of_number (suc count) n (suc j) h = digit_of_number count (n / 256) j (omega arith) ∙ digit_more n j

pub digit-none : (j : ℕ) → digit 0 j ≡ 0
digit-none zero = omega arith
digit-none (suc j) = sym (digit_more 0 j) ∙ digit-none j

-- a number of few bytes is that of its bytes
pub number_of_own : (count n : ℕ) → n < 2 ^ (8 * count) → number_of_bytes (bytes_of_number count n) ≡ n
number_of_own zero n h = omega arith
number_of_own (suc count) n h =
    let power : 2 ^ (8 * suc count) ≡ 2 ^ (8 * count) * 2 ^ 8 =
    ap (λ k. 2 ^ k) (omega arith) ∙ pow-add 2 (8 * count) 8 in
    let rest : number_of_bytes (bytes_of_number count (n / 256)) ≡ n / 256 = number_of_own count (n / 256) (omega arith) in
    omega (arith, rest)

pub own_of_number : (bytes : List ℕ) → ((i : ℕ) → get_or bytes i 0 < 256) → bytes_of_number (length bytes) (number_of_bytes bytes) ≡ bytes
own_of_number [] small = refl
own_of_number (byte ∷ bytes) small =
    let fits : byte < 256 = small 0 in
    let low : (byte + 256 * number_of_bytes bytes) % 256 ≡ byte = omega arith in
    let high : (byte + 256 * number_of_bytes bytes) / 256 ≡ number_of_bytes bytes = omega arith in
    rw (low, high, own_of_number bytes (λ i. small (suc i))) refl

-- one number above another
low_of_sum : (a k low : ℕ) → (a * 2 ^ k + low) % 2 ^ k ≡ low % 2 ^ k
low_of_sum a k low =
    let parts : low / 2 ^ k * 2 ^ k + low % 2 ^ k ≡ low = shr_split low k in
    let sum : a * 2 ^ k + low ≡ (a + low / 2 ^ k) * 2 ^ k + low % 2 ^ k = omega (arith, parts) in
    ap (λ n. n % 2 ^ k) sum ∙ mod_low (a + low / 2 ^ k) k (low % 2 ^ k) (mod_below low (2 ^ k) (pow_pos k))

pub digit_below : (high low m j : ℕ) → j < m → digit (high * 2 ^ (8 * m) + low) j ≡ digit low j
digit_below high low m j h =
    let power : 2 ^ (8 * m) ≡ 2 ^ (8 * (m - suc j)) * 2 ^ (8 + 8 * j) =
    ap (λ k. 2 ^ k) (omega arith) ∙ pow-add 2 (8 * (m - suc j)) (8 + 8 * j) in
    let product : high * 2 ^ (8 * m) ≡ high * 2 ^ (8 * (m - suc j)) * 2 ^ (8 + 8 * j) =
    ap (λ p. high * p) power ∙ sym (mul_assoc high (2 ^ (8 * (m - suc j))) (2 ^ (8 + 8 * j))) in
    let same : (high * 2 ^ (8 * m) + low) % 2 ^ (8 + 8 * j) ≡ low % 2 ^ (8 + 8 * j) =
    ap (λ p. (p + low) % 2 ^ (8 + 8 * j)) product ∙ low_of_sum (high * 2 ^ (8 * (m - suc j))) (8 + 8 * j) low in
    sym (field_of (high * 2 ^ (8 * m) + low) 8 (8 * j)) ∙ ap (λ n. n / 2 ^ (8 * j)) same ∙ field_of low 8 (8 * j)

pub digit_above : (high low m j : ℕ) → low < 2 ^ (8 * m) → m ≤ j → digit (high * 2 ^ (8 * m) + low) j ≡ digit high (j - m)
digit_above high low m j small h =
    let place : 8 * m + 8 * (j - m) ≡ 8 * j = omega arith in
    ap (λ n. n % 256) (ap (λ k. (high * 2 ^ (8 * m) + low) / 2 ^ k) (sym place)
    ∙ sym (shr-shr (high * 2 ^ (8 * m) + low) (8 * m) (8 * (j - m)))
    ∙ ap (λ n. n / 2 ^ (8 * (j - m))) (shr_high high (8 * m) low small))

pub digit_shifted : (n m j : ℕ) → digit (n / 2 ^ (8 * m)) j ≡ digit n (m + j)
digit_shifted n m j =
    let place : 8 * m + 8 * j ≡ 8 * (m + j) = omega arith in
    ap (λ k. k % 256) (shr-shr n (8 * m) (8 * j) ∙ ap (λ k. n / 2 ^ k) place)

pub digit_low : (n m j : ℕ) → j < m → digit (n % 2 ^ (8 * m)) j ≡ digit n j
digit_low n m j h =
    sym (digit_below (n / 2 ^ (8 * m)) (n % 2 ^ (8 * m)) m j h) ∙ ap (λ k. digit k j) (shr_split n (8 * m))

pub shifted_fits : (first skipped : ℕ) → first < 2 ^ 64 → skipped < 8 → first / 2 ^ (8 * skipped) < 2 ^ (8 * (8 - skipped))
shifted_fits first skipped wide few =
    let width : 8 * (8 - skipped) + 8 * skipped ≡ 64 = omega arith in
    shr_below first (8 * (8 - skipped)) (8 * skipped) (rw width wide)

-- two words shifted together, the second above what is left of the first
pub joined_by_shifts : (first second skipped : ℕ) → first < 2 ^ 64 → 1 ≤ skipped → skipped < 8 →
    bit_or (second * 2 ^ (8 * (8 - skipped)) % 18446744073709551616) (first / 2 ^ (8 * skipped))
    ≡ second % 2 ^ (8 * skipped) * 2 ^ (8 * (8 - skipped)) + first / 2 ^ (8 * skipped)
joined_by_shifts first second skipped wide some few =
    let width : 8 * skipped + 8 * (8 - skipped) ≡ 64 = omega arith in
    let k : ℕ = 8 * (8 - skipped) in
    let nothing : second * 2 ^ k % 2 ^ k ≡ 0 = ap (λ n. n % 2 ^ k) (sym (add-zero (second * 2 ^ k))) ∙ mod_low second k 0 (pow_pos k) in
    let kept : second * 2 ^ (8 * (8 - skipped)) % 2 ^ 64 ≡ second % 2 ^ (8 * skipped) * 2 ^ (8 * (8 - skipped)) =
    ap (λ k. second * 2 ^ (8 * (8 - skipped)) % 2 ^ k) (sym width)
    ∙ mod-pow-add (second * 2 ^ (8 * (8 - skipped))) (8 * skipped) (8 * (8 - skipped))
    ∙ rw (shl-shr second k, nothing, add-zero) refl in
    let small : first / 2 ^ (8 * skipped) < 2 ^ (8 * (8 - skipped)) = shifted_fits first skipped wide few in
    ap (λ n. bit_or n (first / 2 ^ (8 * skipped))) kept ∙ or_shifted (second % 2 ^ (8 * skipped)) (8 * (8 - skipped)) (first / 2 ^ (8 * skipped)) small

-- some bytes of a word kept, and a number above them
pub above_by_shifts : (word number kept : ℕ) → kept < 8 →
    bit_or (number * 2 ^ (8 * kept) % 18446744073709551616) (word % (1 * 2 ^ (8 * kept) % 18446744073709551616))
    ≡ number % 2 ^ (8 * (8 - kept)) * 2 ^ (8 * kept) + word % 2 ^ (8 * kept)
above_by_shifts word number kept few =
    let width : 8 * (8 - kept) + 8 * kept ≡ 64 = omega arith in
    let k : ℕ = 8 * kept in
    let one : 1 * 2 ^ (8 * kept) % 2 ^ 64 ≡ 2 ^ (8 * kept) = one_shl (8 * kept) 64 (omega arith) in
    let nothing : number * 2 ^ k % 2 ^ k ≡ 0 = ap (λ n. n % 2 ^ k) (sym (add-zero (number * 2 ^ k))) ∙ mod_low number k 0 (pow_pos k) in
    let shifted : number * 2 ^ (8 * kept) % 2 ^ 64 ≡ number % 2 ^ (8 * (8 - kept)) * 2 ^ (8 * kept) =
    ap (λ j. number * 2 ^ (8 * kept) % 2 ^ j) (sym width)
    ∙ mod-pow-add (number * 2 ^ (8 * kept)) (8 * (8 - kept)) (8 * kept)
    ∙ rw (shl-shr number k, nothing, add-zero) refl in
    ap (λ n. bit_or n (word % (1 * 2 ^ (8 * kept) % 2 ^ 64))) shifted
    ∙ ap (λ m. bit_or (number % 2 ^ (8 * (8 - kept)) * 2 ^ (8 * kept)) (word % m)) one
    ∙ or_shifted (number % 2 ^ (8 * (8 - kept))) (8 * kept) (word % 2 ^ (8 * kept)) (mod_below word (2 ^ (8 * kept)) (pow_pos (8 * kept)))

-- what is left of `all` bytes without the lowest ones
pub highest_fits : (number count skipped all : ℕ) → number < 2 ^ (8 * all) → count + skipped ≡ all → number / 2 ^ (8 * skipped) < 2 ^ (8 * count)
highest_fits number count skipped all wide sum =
    let width : 8 * count + 8 * skipped ≡ 8 * all = omega (arith, sum) in
    shr_below number (8 * count) (8 * skipped) (rw width wide)

-- a number of some bytes, and a word above it
pub below_by_shifts : (word low count : ℕ) → count < 8 → low < 2 ^ (8 * count) →
    bit_or (word - word % (1 * 2 ^ (8 * count) % 18446744073709551616)) low ≡ word / 2 ^ (8 * count) * 2 ^ (8 * count) + low
below_by_shifts word low count few fits =
    let k : ℕ = 8 * count in
    let one : 1 * 2 ^ (8 * count) % 2 ^ 64 ≡ 2 ^ (8 * count) = one_shl (8 * count) 64 (omega arith) in
    let parts : word / 2 ^ k * 2 ^ k + word % 2 ^ k ≡ word = shr_split word k in
    let high : word - word % 2 ^ k ≡ word / 2 ^ k * 2 ^ k = omega (arith, parts) in
    ap (λ m. bit_or (word - word % m) low) one ∙ ap (λ n. bit_or n low) high ∙ or_shifted (word / 2 ^ k) k low fits

-- the bytes of a word with some of them replaced
pub field_below : (word low count value j : ℕ) → j < low → digit (with_field_of word (8 * low) (8 * count) value) j ≡ digit word j
field_below word low count value j h =
    digit_below (word / 2 ^ (8 * low + 8 * count) * 2 ^ (8 * count) + value) (word % 2 ^ (8 * low)) low j h ∙ digit_low word low j h

field_from : (word low count value j : ℕ) →
    digit (with_field_of word (8 * low) (8 * count) value) (low + j) ≡ digit (word / 2 ^ (8 * low + 8 * count) * 2 ^ (8 * count) + value) j
field_from word low count value j =
    let back : low + j - low ≡ j = omega arith in
    digit_above (word / 2 ^ (8 * low + 8 * count) * 2 ^ (8 * count) + value) (word % 2 ^ (8 * low)) low (low + j) (mod_below word (2 ^ (8 * low)) (pow_pos (8 * low))) (omega arith)
    ∙ ap (digit (word / 2 ^ (8 * low + 8 * count) * 2 ^ (8 * count) + value)) back

pub field_inside : (word low count value j : ℕ) → j < count → digit (with_field_of word (8 * low) (8 * count) value) (low + j) ≡ digit value j
field_inside word low count value j h =
    field_from word low count value j ∙ digit_below (word / 2 ^ (8 * low + 8 * count)) value count j h

pub field_above : (word low count value j : ℕ) → value < 2 ^ (8 * count) → low + count ≤ j → digit (with_field_of word (8 * low) (8 * count) value) j ≡ digit word j
field_above word low count value j small from =
    let place : low + (j - low) ≡ j = omega arith in
    let sum : 8 * low + 8 * count ≡ 8 * (low + count) = omega arith in
    let end : low + count + (j - low - count) ≡ j = omega arith in
    ap (digit (with_field_of word (8 * low) (8 * count) value)) (sym place)
    ∙ field_from word low count value (j - low)
    ∙ digit_above (word / 2 ^ (8 * low + 8 * count)) value count (j - low) small (omega arith)
    ∙ ap (λ k. digit (word / 2 ^ k) (j - low - count)) sum
    ∙ digit_shifted word (low + count) (j - low - count) ∙ ap (digit word) end

-- a byte of the number of some bytes
pub digit_of_bytes : (bytes : List ℕ) (j : ℕ) → ((i : ℕ) → get_or bytes i 0 < 256) → j < length bytes → digit (number_of_bytes bytes) j ≡ get_or bytes j 0
digit_of_bytes bytes j small h =
    sym (digit_of_number (length bytes) (number_of_bytes bytes) j h) ∙ ap (λ xs. get_or xs j 0) (own_of_number bytes small)

-- the last bytes of those from place `from` on, whose number is shifted down to them
pub last_digits : (bytes : List ℕ) (from skipped count number : ℕ) → ((i : ℕ) → get_or bytes i 0 < 256) → number ≡ number_of_bytes (drop from bytes) →
    from + skipped + count ≡ length bytes → (j : ℕ) → j < count → digit (number / 2 ^ (8 * skipped)) j ≡ get_or bytes (length bytes - count + j) 0
last_digits bytes from skipped count number small is_number sum j h =
    let tail : List ℕ = drop from bytes in
    let small_tail : (i : ℕ) → get_or tail i 0 < 256 = λ i. rw (get_or-drop from bytes i 0) (small (from + i)) in
    let place : from + (skipped + j) ≡ length bytes - count + j = omega (arith, sum) in
    digit_shifted number skipped j ∙ ap (λ n. digit n (skipped + j)) is_number
    ∙ digit_of_bytes tail (skipped + j) small_tail (omega (arith, sum, h, length-drop from bytes))
    ∙ get_or-drop from bytes (skipped + j) 0 ∙ ap (λ p. get_or bytes p 0) place

pub eight_bytes : (bytes : List ℕ) → length bytes ≡ 8 →
    number_of_bytes (get_or bytes 0 0 ∷ get_or bytes 1 0 ∷ get_or bytes 2 0 ∷ get_or bytes 3 0 ∷ get_or bytes 4 0 ∷ get_or bytes 5 0 ∷ get_or bytes 6 0 ∷ get_or bytes 7 0 ∷ [])
    ≡ number_of_bytes bytes
eight_bytes [] e = absurd (omega (arith, e))
eight_bytes (a ∷ []) e = absurd (omega (arith, e))
eight_bytes (a ∷ b ∷ []) e = absurd (omega (arith, e))
eight_bytes (a ∷ b ∷ c ∷ []) e = absurd (omega (arith, e))
eight_bytes (a ∷ b ∷ c ∷ d ∷ []) e = absurd (omega (arith, e))
eight_bytes (a ∷ b ∷ c ∷ d ∷ f ∷ []) e = absurd (omega (arith, e))
eight_bytes (a ∷ b ∷ c ∷ d ∷ f ∷ g ∷ []) e = absurd (omega (arith, e))
eight_bytes (a ∷ b ∷ c ∷ d ∷ f ∷ g ∷ h ∷ []) e = absurd (omega (arith, e))
eight_bytes (a ∷ b ∷ c ∷ d ∷ f ∷ g ∷ h ∷ i ∷ []) e = refl
eight_bytes (a ∷ b ∷ c ∷ d ∷ f ∷ g ∷ h ∷ i ∷ j ∷ rest) e = absurd (omega (arith, e))

pub small_part : (bytes : List ℕ) (at count : ℕ) → ((i : ℕ) → get_or bytes i 0 < 256) → (i : ℕ) → get_or (take count (drop at bytes)) i 0 < 256
small_part bytes at count small i =
    elim (cases_lt i count) as (λ _. get_or (take count (drop at bytes)) i 0 < 256) [
      | inl within ↦ rw (get_or-take count (drop at bytes) i 0 within, get_or-drop at bytes i 0) (small (at + i))
      | inr past ↦ rw (get_or_past (take count (drop at bytes)) i 0 (omega (arith, length-take count (drop at bytes)))) (omega arith)
    ]

pub number_fits : (bytes : List ℕ) → ((i : ℕ) → get_or bytes i 0 < 256) → number_of_bytes bytes < 2 ^ (8 * length bytes)
number_fits [] small = omega arith
number_fits (byte ∷ bytes) small =
    let power : 2 ^ (8 * suc (length bytes)) ≡ 2 ^ (8 * length bytes) * 2 ^ 8 =
    ap (λ k. 2 ^ k) (omega arith) ∙ pow-add 2 (8 * length bytes) 8 in
    let low : byte < 256 = small 0 in
    let rest : number_of_bytes bytes < 2 ^ (8 * length bytes) = number_fits bytes (λ i. small (suc i)) in
    omega (arith, power, low, rest)
