-- The bytes of words, place by place.
use Rattle.std.proofs.Common.{◌≡◌, ◌+◌, ◌-◌, ◌*◌, ◌/◌, ◌%◌, ◌^◌, ◌<◌, ◌≤◌, ℕ, zero, suc, List, [], ◌∷◌, ◌++◌, length, get_or, take, drop, replicate, sym, ◌∙◌, ap, refl, inl, inr, arith, append_assoc, length-append, length-take, length-drop, get_or-take, get_or-drop}
use Rattle.std.proofs.Math.Seq.{drop-append_seam}
use Rattle.std.proofs.lemmas.List.{take-append-drop, ext_get_or, get_or_append_left, get_or-append_right}
use Rattle.std.proofs.lemmas.Bool.{cases_lt}
use Rattle.iom_bits.specs.Bytes.{bytes_of_number}
use Rattle.iom_mem.specs.Words.{bytes_of_words}
use Rattle.iom_mem.proofs.Digits.{digit, digit_of_number, digit-none, digit_shifted, digit_below, digit_above, digit_low, length-bytes_of_number}

pub words_hold : (words : List ℕ) → length (bytes_of_words words) ≡ 8 * length words
unfolding bytes_of_words
words_hold [] = refl
words_hold (word ∷ words) =
    length-append (bytes_of_number 8 word) (bytes_of_words words) ∙ omega (arith, length-bytes_of_number 8 word, words_hold words)

pub bytes_of_append : (front back : List ℕ) → bytes_of_words (front ++ back) ≡ bytes_of_words front ++ bytes_of_words back
unfolding bytes_of_words
bytes_of_append [] back = refl
bytes_of_append (word ∷ words) back =
    ap (λ bytes. bytes_of_number 8 word ++ bytes) (bytes_of_append words back)
    ∙ sym (append_assoc (bytes_of_number 8 word) (bytes_of_words words) (bytes_of_words back))

pub bytes_of_drop : (words : List ℕ) (k : ℕ) → k ≤ length words → bytes_of_words (drop k words) ≡ drop (8 * k) (bytes_of_words words)
bytes_of_drop words k within =
    let front : List ℕ = take k words in
    let back : List ℕ = drop k words in
    let size : length (bytes_of_words front) ≡ 8 * k = words_hold front ∙ omega (arith, length-take k words) in
    let parts : bytes_of_words front ++ bytes_of_words back ≡ bytes_of_words words =
    sym (bytes_of_append front back) ∙ ap bytes_of_words (take-append-drop k words) in
    sym (drop-append_seam (bytes_of_words front) (bytes_of_words back))
    ∙ ap (λ n. drop n (bytes_of_words front ++ bytes_of_words back)) size ∙ ap (drop (8 * k)) parts

pub bytes_of_zeros : (count : ℕ) → bytes_of_words (replicate count 0) ≡ replicate (8 * count) 0
unfolding bytes_of_words
bytes_of_zeros zero = refl
bytes_of_zeros (suc count) =
    let more : 8 * suc count ≡ suc (suc (suc (suc (suc (suc (suc (suc (8 * count)))))))) = omega arith in
    rw (more, bytes_of_zeros count) refl

-- the byte at a place is one of the bytes of the word that it stands in
pub byte_of_words : (words : List ℕ) (k : ℕ) → get_or (bytes_of_words words) k 0 ≡ digit (get_or words (k / 8) 0) (k % 8)
unfolding bytes_of_words
byte_of_words [] k = sym (digit-none (k % 8))
byte_of_words (word ∷ words) k =
    let size : length (bytes_of_number 8 word) ≡ 8 = length-bytes_of_number 8 word in
    elim (cases_lt k 8) as (λ _. get_or (bytes_of_number 8 word ++ bytes_of_words words) k 0 ≡ digit (get_or (word ∷ words) (k / 8) 0) (k % 8)) [
      | inl below ↦
          let first : k / 8 ≡ 0 = omega arith in
          let same : k % 8 ≡ k = omega arith in
          rw (first, same) (get_or_append_left (bytes_of_number 8 word) (bytes_of_words words) 0 k (omega (arith, size)) ∙ digit_of_number 8 word k below)
      | inr from ↦
          let next : k / 8 ≡ suc ((k - 8) / 8) = omega arith in
          let same : k % 8 ≡ (k - 8) % 8 = omega arith in
          rw (next, same) (get_or-append_right (bytes_of_number 8 word) (bytes_of_words words) 8 k 0 size from ∙ byte_of_words words (k - 8))
    ]

-- bytes that are those of a number, one by one
pub run_is : (bytes : List ℕ) (at count n : ℕ) → at + count ≤ length bytes →
    ((j : ℕ) → j < count → digit n j ≡ get_or bytes (at + j) 0) → bytes_of_number count n ≡ take count (drop at bytes)
run_is bytes at count n within each =
    let size : length (bytes_of_number count n) ≡ count = length-bytes_of_number count n in
    ext_get_or 0 (bytes_of_number count n) (take count (drop at bytes))
    (size ∙ omega (arith, length-take count (drop at bytes), length-drop at bytes))
    (λ j h.
    let below : j < count = omega (arith, size) in
    digit_of_number count n j below ∙ each j below ∙ sym (get_or-take count (drop at bytes) j 0 below ∙ get_or-drop at bytes j 0))

pub one_word : (words : List ℕ) (at count : ℕ) → at % 8 + count ≤ 8 → at + count ≤ 8 * length words →
    bytes_of_number count (get_or words (at / 8) 0 / 2 ^ (8 * (at % 8))) ≡ take count (drop at (bytes_of_words words))
one_word words at count together within =
    run_is (bytes_of_words words) at count (get_or words (at / 8) 0 / 2 ^ (8 * (at % 8))) (omega (arith, words_hold words)) (λ j h.
    let place : (at + j) / 8 ≡ at / 8 = omega arith in
    let part : (at + j) % 8 ≡ at % 8 + j = omega arith in
    digit_shifted (get_or words (at / 8) 0) (at % 8) j
    ∙ sym (byte_of_words words (at + j) ∙ ap (λ p. digit (get_or words p 0) ((at + j) % 8)) place ∙ ap (digit (get_or words (at / 8) 0)) part))

pub two_words : (words : List ℕ) (at count n : ℕ) → count ≤ 8 → 1 ≤ at % 8 → at + count ≤ 8 * length words →
    get_or words (at / 8) 0 / 2 ^ (8 * (at % 8)) < 2 ^ (8 * (8 - at % 8)) →
    n ≡ get_or words (at / 8 + 1) 0 % 2 ^ (8 * (at % 8)) * 2 ^ (8 * (8 - at % 8)) + get_or words (at / 8) 0 / 2 ^ (8 * (at % 8)) →
    bytes_of_number count n ≡ take count (drop at (bytes_of_words words))
two_words words at count n few some within low e =
    let first : ℕ = get_or words (at / 8) 0 in
    let second : ℕ = get_or words (at / 8 + 1) 0 in
    let skipped : ℕ = at % 8 in
    run_is (bytes_of_words words) at count n (omega (arith, words_hold words)) (λ j h.
    ap (λ m. digit m j) e ∙ elim (cases_lt j (8 - skipped)) as (λ _. digit (second % 2 ^ (8 * skipped) * 2 ^ (8 * (8 - skipped)) + first / 2 ^ (8 * skipped)) j ≡ get_or (bytes_of_words words) (at + j) 0) [
      | inl below ↦
          let place : (at + j) / 8 ≡ at / 8 = omega arith in
          let part : (at + j) % 8 ≡ skipped + j = omega arith in
          digit_below (second % 2 ^ (8 * skipped)) (first / 2 ^ (8 * skipped)) (8 - skipped) j below
          ∙ digit_shifted first skipped j
          ∙ sym (byte_of_words words (at + j) ∙ ap (λ p. digit (get_or words p 0) ((at + j) % 8)) place ∙ ap (digit first) part)
      | inr from ↦
          let place : (at + j) / 8 ≡ at / 8 + 1 = omega arith in
          let part : (at + j) % 8 ≡ j - (8 - skipped) = omega arith in
          digit_above (second % 2 ^ (8 * skipped)) (first / 2 ^ (8 * skipped)) (8 - skipped) j low from
          ∙ digit_low second skipped (j - (8 - skipped)) (omega arith)
          ∙ sym (byte_of_words words (at + j) ∙ ap (λ p. digit (get_or words p 0) ((at + j) % 8)) place ∙ ap (digit second) part)
    ])

-- a word that lies whole in what is read
pub whole_word : (words : List ℕ) (i : ℕ) → i < length words →
    bytes_of_number 8 (get_or words i 0) ≡ take 8 (drop (8 * i) (bytes_of_words words))
whole_word words i h =
    run_is (bytes_of_words words) (8 * i) 8 (get_or words i 0) (omega (arith, words_hold words)) (λ j few.
    let place : (8 * i + j) / 8 ≡ i = omega arith in
    let part : (8 * i + j) % 8 ≡ j = omega arith in
    sym (byte_of_words words (8 * i + j) ∙ ap (λ p. digit (get_or words p 0) ((8 * i + j) % 8)) place ∙ ap (digit (get_or words i 0)) part))

pub zeros_hold : (size : ℕ) → size % 4096 ≡ 0 → bytes_of_words (replicate (size / 8) 0) ≡ replicate size 0
zeros_hold size paged =
    let whole : 8 * (size / 8) ≡ size = omega arith in
    bytes_of_zeros (size / 8) ∙ ap (λ n. replicate n 0) whole
