-- The words at the ends of what is read or written, and those between.
use Rattle.std.proofs.Common.{◌≡◌, ◌+◌, ◌-◌, ◌*◌, ◌/◌, ◌%◌, ◌^◌, ◌<◌, ◌≤◌, ℕ, List, length, get_or, take, drop, set, sym, ◌∙◌, ap, inl, inr, arith, length-take, length-drop, get_or-take, get_or-drop, length-set, add-zero}
use Rattle.std.proofs.Math.Seq.{paste}
use Rattle.std.proofs.lemmas.List.{ext_get_or}
use Rattle.std.proofs.lemmas.List.Edits.{length-paste}
use Rattle.std.proofs.lemmas.Nat.{pow_pos, mod_below}
use Rattle.std.proofs.lemmas.Bool.{cases_lt}
use Rattle.iom_bits.specs.Bits.{with_field_of}
use Rattle.iom_bits.specs.Bytes.{number_of_bytes, bytes_of_number}
use Rattle.iom_mem.specs.Words.{bytes_of_words}
use Rattle.iom_mem.proofs.Digits.{digit, digit_of_number, digit_shifted, digit_below, digit_above, digit_low, digit_of_bytes, field_below, field_inside, field_above, length-bytes_of_number, number_fits, small_part}
use Rattle.iom_mem.proofs.WordBytes.{words_hold, byte_of_words}
use Rattle.iom_mem.proofs.WordEdits.{ReplacesDigits, word_set}
use Rattle.iom_mem.proofs.Pasting.{paste_below, paste_inside, paste_above, paste_first, paste_next}

-- a byte of the word that is read first
first_read : (words : List ℕ) (at low k : ℕ) → low ≡ get_or words (at / 8) 0 / 2 ^ (8 * (at % 8)) → at % 8 + k < 8 →
    get_or (bytes_of_number 8 low) k 0 ≡ get_or (bytes_of_words words) (at + k) 0
first_read words at low k is few =
    let place : (at + k) / 8 ≡ at / 8 = omega arith in
    let part : (at + k) % 8 ≡ at % 8 + k = omega arith in
    digit_of_number 8 low k (omega arith) ∙ ap (λ w. digit w k) is ∙ digit_shifted (get_or words (at / 8) 0) (at % 8) k
    ∙ sym (byte_of_words words (at + k) ∙ ap (λ p. digit (get_or words p 0) ((at + k) % 8)) place ∙ ap (digit (get_or words (at / 8) 0)) part)

-- a byte of the words between
between_read : (words middle : List ℕ) (first count k : ℕ) → middle ≡ take count (drop first words) → k < 8 * count →
    get_or (bytes_of_words middle) k 0 ≡ get_or (bytes_of_words words) (8 * first + k) 0
between_read words middle first count k is few =
    let place : (8 * first + k) / 8 ≡ first + k / 8 = omega arith in
    let part : (8 * first + k) % 8 ≡ k % 8 = omega arith in
    byte_of_words middle k
    ∙ ap (λ w. digit w (k % 8)) (ap (λ ws. get_or ws (k / 8) 0) is ∙ get_or-take count (drop first words) (k / 8) 0 (omega arith) ∙ get_or-drop first words (k / 8) 0)
    ∙ sym (byte_of_words words (8 * first + k) ∙ ap (λ p. digit (get_or words p 0) ((8 * first + k) % 8)) place ∙ ap (digit (get_or words (first + k / 8) 0)) part)

-- a byte of the word that is read last
last_read : (words : List ℕ) (last high j place : ℕ) → high ≡ get_or words (last / 8) 0 * 2 ^ (8 * (7 - last % 8)) % 2 ^ 64 →
    7 - last % 8 ≤ j → j < 8 → place + 7 ≡ last + j → get_or (bytes_of_number 8 high) j 0 ≡ get_or (bytes_of_words words) place 0
last_read words last high j place is from few there =
    let w : ℕ = get_or words (last / 8) 0 in
    let c : ℕ = 7 - last % 8 in
    let same : place / 8 ≡ last / 8 = omega arith in
    let part : place % 8 ≡ j - (7 - last % 8) = omega arith in
    digit_of_number 8 high j few ∙ ap (λ n. digit n j) is ∙ digit_low (w * 2 ^ (8 * c)) 8 j few
    ∙ ap (λ n. digit n j) (sym (add-zero (w * 2 ^ (8 * c)))) ∙ digit_above w 0 c j (pow_pos (8 * c)) from
    ∙ sym (byte_of_words words place ∙ ap (λ p. digit (get_or words p 0) (place % 8)) same ∙ ap (digit w) part)

pub many_read : (words out middle : List ℕ) (at last low high : ℕ) → at + length out ≤ 8 * length words → 16 < length out →
    last + 1 ≡ at + length out →
    high ≡ get_or words (last / 8) 0 * 2 ^ (8 * (7 - last % 8)) % 2 ^ 64 →
    low ≡ get_or words (at / 8) 0 / 2 ^ (8 * (at % 8)) →
    middle ≡ take (last / 8 - (at / 8 + 1)) (drop (at / 8 + 1) words) →
    paste (paste (paste out (length out - 8) (bytes_of_number 8 high) 8) 0 (bytes_of_number 8 low) 8) (8 - at % 8) (bytes_of_words middle) (8 * length middle)
    ≡ take (length out) (drop at (bytes_of_words words))
many_read words out middle at last low high within many is_last is_high is_low is_middle =
    let n : ℕ = length out in
    let bytes : List ℕ = bytes_of_words words in
    let count : ℕ = last / 8 - (at / 8 + 1) in
    let size : length bytes ≡ 8 * length words = words_hold words in
    let one : List ℕ = paste out (n - 8) (bytes_of_number 8 high) 8 in
    let two : List ℕ = paste one 0 (bytes_of_number 8 low) 8 in
    let three : List ℕ = paste two (8 - at % 8) (bytes_of_words middle) (8 * length middle) in
    let high_size : length (bytes_of_number 8 high) ≡ 8 = length-bytes_of_number 8 high in
    let low_size : length (bytes_of_number 8 low) ≡ 8 = length-bytes_of_number 8 low in
    let middle_size : length middle ≡ count =
    ap length is_middle ∙ omega (arith, length-take count (drop (at / 8 + 1) words), length-drop (at / 8 + 1) words) in
    let full : 8 * length middle ≤ length (bytes_of_words middle) = omega (arith, words_hold middle) in
    let high_full : 8 ≤ length (bytes_of_number 8 high) = omega (arith, high_size) in
    let low_full : 8 ≤ length (bytes_of_number 8 low) = omega (arith, low_size) in
    let one_room : n - 8 + 8 ≤ length out = omega arith in
    let one_size : length one ≡ n = length-paste out (n - 8) (bytes_of_number 8 high) 8 one_room high_full in
    let two_room : 0 + 8 ≤ length one = omega (arith, one_size) in
    let two_size : length two ≡ n = length-paste one 0 (bytes_of_number 8 low) 8 two_room low_full ∙ one_size in
    let room : 8 - at % 8 + 8 * length middle ≤ length two = omega (arith, two_size, middle_size, is_last) in
    let three_size : length three ≡ n = length-paste two (8 - at % 8) (bytes_of_words middle) (8 * length middle) room full ∙ two_size in
    ext_get_or 0 three (take n (drop at bytes)) (three_size ∙ omega (arith, length-take n (drop at bytes), length-drop at bytes, size)) (λ k h.
    let below : k < n = omega (arith, three_size) in
    let same : k - 0 ≡ k = omega arith in
    elim (cases_lt k (8 - at % 8)) as (λ _. get_or three k 0 ≡ get_or bytes (at + k) 0) [
      | inl start ↦
          paste_below two (8 - at % 8) (bytes_of_words middle) (8 * length middle) k room full start
          ∙ paste_inside one 0 (bytes_of_number 8 low) 8 k two_room low_full (omega arith) (omega arith)
          ∙ ap (λ p. get_or (bytes_of_number 8 low) p 0) same ∙ first_read words at low k is_low (omega arith)
      | inr from ↦ elim (cases_lt k (8 - at % 8 + 8 * length middle)) as (λ _. get_or three k 0 ≡ get_or bytes (at + k) 0) [
        | inl between ↦
            let place : 8 * (at / 8 + 1) + (k - (8 - at % 8)) ≡ at + k = omega arith in
            paste_inside two (8 - at % 8) (bytes_of_words middle) (8 * length middle) k room full from between
            ∙ between_read words middle (at / 8 + 1) count (k - (8 - at % 8)) is_middle (omega (arith, middle_size))
            ∙ ap (λ p. get_or bytes p 0) place
        | inr past ↦
            paste_above two (8 - at % 8) (bytes_of_words middle) (8 * length middle) k room full past
            ∙ paste_above one 0 (bytes_of_number 8 low) 8 k two_room low_full (omega (arith, middle_size, is_last, many))
            ∙ paste_inside out (n - 8) (bytes_of_number 8 high) 8 k one_room high_full (omega (arith, middle_size, is_last, many)) (omega arith)
            ∙ last_read words last high (k - (n - 8)) (at + k) is_high (omega (arith, middle_size, is_last, many)) (omega arith) (omega (arith, is_last, middle_size, many))
      ]
    ] ∙ sym (get_or-take n (drop at bytes) k 0 below ∙ get_or-drop at bytes k 0))

-- the word that is written first
pub first_set : (words : List ℕ) (kept : ℕ) (bytes : List ℕ) (word number : ℕ) → kept < 8 → kept + length bytes ≤ 8 * length words →
    8 ≤ kept + length bytes → ((i : ℕ) → get_or bytes i 0 < 256) → number ≡ number_of_bytes (take 8 bytes) →
    word ≡ number % 2 ^ (8 * (8 - kept)) * 2 ^ (8 * kept) + get_or words 0 0 % 2 ^ (8 * kept) →
    bytes_of_words (set words 0 word) ≡ paste (bytes_of_words words) kept bytes (8 - kept)
first_set words kept bytes word number part within some small is_number is_word =
    let old : ℕ = get_or words 0 0 in
    let piece : List ℕ = take (8 - kept) bytes in
    let size : length piece ≡ 8 - kept = omega (arith, length-take (8 - kept) bytes) in
    let fits : old % 2 ^ (8 * kept) < 2 ^ (8 * kept) = mod_below old (2 ^ (8 * kept)) (pow_pos (8 * kept)) in
    let place : kept / 8 ≡ 0 = omega arith in
    let same : kept % 8 ≡ kept = omega arith in
    let new : ReplacesDigits old kept piece word = record {
      below = λ j h. ap (λ w. digit w j) is_word ∙ digit_below (number % 2 ^ (8 * (8 - kept))) (old % 2 ^ (8 * kept)) kept j h ∙ digit_low old kept j h;
      inside = λ j h.
          let few : j < 8 - kept = omega (arith, size) in
          let back : kept + j - kept ≡ j = omega arith in
          ap (λ w. digit w (kept + j)) is_word
          ∙ digit_above (number % 2 ^ (8 * (8 - kept))) (old % 2 ^ (8 * kept)) kept (kept + j) fits (omega arith)
          ∙ ap (digit (number % 2 ^ (8 * (8 - kept)))) back ∙ digit_low number (8 - kept) j few
          ∙ ap (λ n. digit n j) is_number
          ∙ digit_of_bytes (take 8 bytes) j (small_part bytes 0 8 small) (omega (arith, few, some, length-take 8 bytes))
          ∙ get_or-take 8 bytes j 0 (omega arith) ∙ sym (get_or-take (8 - kept) bytes j 0 few);
      above = λ j h few. absurd (omega (arith, size));
    } in
    ap (λ p. bytes_of_words (set words p word)) (sym place)
    ∙ word_set words kept word piece (omega (arith, size)) (omega (arith, place)) (omega (arith, size)) (rw (place, same) new)
    ∙ ap (paste (bytes_of_words words) kept piece) size ∙ paste_first (bytes_of_words words) kept bytes (8 - kept)

-- the word that is written last
pub last_set : (words : List ℕ) (i count : ℕ) (bytes : List ℕ) (word low : ℕ) → 8 * i + count ≤ 8 * length words → count < 8 → 0 < count →
    count ≤ length bytes → ((j : ℕ) → j < count → digit low j ≡ get_or bytes (length bytes - count + j) 0) →
    word ≡ get_or words i 0 / 2 ^ (8 * count) * 2 ^ (8 * count) + low → low < 2 ^ (8 * count) →
    bytes_of_words (set words i word) ≡ paste (bytes_of_words words) (8 * i) (drop (length bytes - count) bytes) count
last_set words i count bytes word low within few some enough each is_word fits =
    let old : ℕ = get_or words i 0 in
    let high : ℕ = old / 2 ^ (8 * count) in
    let piece : List ℕ = drop (length bytes - count) bytes in
    let size : length piece ≡ count = omega (arith, length-drop (length bytes - count) bytes) in
    let place : 8 * i / 8 ≡ i = omega arith in
    let start : 8 * i % 8 ≡ 0 = omega arith in
    let new : ReplacesDigits old 0 piece word = record {
      below = λ j h. absurd (omega arith);
      inside = λ j h.
          let inside : j < count = omega (arith, size) in
          let same : 0 + j ≡ j = omega arith in
          ap (digit word) same ∙ ap (λ w. digit w j) is_word ∙ digit_below high low count j inside ∙ each j inside ∙ sym (get_or-drop (length bytes - count) bytes j 0);
      above = λ j h below.
          let from : count ≤ j = omega (arith, size) in
          let back : count + (j - count) ≡ j = omega (arith, from) in
          ap (λ w. digit w j) is_word ∙ digit_above high low count j fits from ∙ digit_shifted old count (j - count) ∙ ap (digit old) back;
    } in
    ap (λ p. bytes_of_words (set words p word)) (sym place)
    ∙ word_set words (8 * i) word piece (omega (arith, size)) (omega (arith, place)) (omega (arith, size, start)) (rw (place, start) new)
    ∙ ap (paste (bytes_of_words words) (8 * i) piece) size

-- a word in which some bytes are written
pub field_set : (words : List ℕ) (kept : ℕ) (bytes : List ℕ) (word number : ℕ) → kept < 8 → 1 ≤ length bytes → kept + length bytes ≤ 8 →
    kept + length bytes ≤ 8 * length words → ((i : ℕ) → get_or bytes i 0 < 256) → number ≡ number_of_bytes bytes →
    word ≡ with_field_of (get_or words 0 0) (8 * kept) (8 * length bytes) number →
    bytes_of_words (set words 0 word) ≡ paste (bytes_of_words words) kept bytes (length bytes)
field_set words kept bytes word number part some together within small is_number is_word =
    let old : ℕ = get_or words 0 0 in
    let count : ℕ = length bytes in
    let value : ℕ = number_of_bytes bytes in
    let place : kept / 8 ≡ 0 = omega arith in
    let same : kept % 8 ≡ kept = omega arith in
    let is_field : word ≡ with_field_of old (8 * kept) (8 * count) value = is_word ∙ ap (with_field_of old (8 * kept) (8 * count)) is_number in
    let new : ReplacesDigits old kept bytes word = record {
      below = λ j h. ap (λ w. digit w j) is_field ∙ field_below old kept count value j h;
      inside = λ j h. ap (λ w. digit w (kept + j)) is_field ∙ field_inside old kept count value j h ∙ digit_of_bytes bytes j small h;
      above = λ j h few. ap (λ w. digit w j) is_field ∙ field_above old kept count value j (number_fits bytes small) h;
    } in
    ap (λ p. bytes_of_words (set words p word)) (sym place)
    ∙ word_set words kept word bytes within (omega (arith, place, some)) (rw same together) (rw (place, same) new)

-- a whole word that is written
pub whole_set : (words : List ℕ) (i : ℕ) (bytes : List ℕ) (from number : ℕ) → i < length words → from + 8 ≤ length bytes →
    ((i : ℕ) → get_or bytes i 0 < 256) → number ≡ number_of_bytes (take 8 (drop from bytes)) →
    bytes_of_words (set words i number) ≡ paste (bytes_of_words words) (8 * i) (take 8 (drop from bytes)) 8
whole_set words i bytes from number within some small is_number =
    let piece : List ℕ = take 8 (drop from bytes) in
    let size : length piece ≡ 8 = omega (arith, length-take 8 (drop from bytes), length-drop from bytes) in
    let place : 8 * i / 8 ≡ i = omega arith in
    let start : 8 * i % 8 ≡ 0 = omega arith in
    ap (λ p. bytes_of_words (set words p number)) (sym place)
    ∙ word_set words (8 * i) number piece (omega (arith, size)) (omega arith) (omega (arith, size)) record {
      below = λ j h. absurd (omega (arith, start));
      inside = λ j h.
          let part : 8 * i % 8 + j ≡ j = omega (arith, start) in
          ap (digit number) part ∙ ap (λ n. digit n j) is_number ∙ digit_of_bytes piece j (small_part bytes from 8 small) h;
      above = λ j h few. absurd (omega (arith, size, start));
    }
    ∙ ap (paste (bytes_of_words words) (8 * i) piece) size

pub two_set : (words : List ℕ) (first skipped : ℕ) (bytes : List ℕ) (low high : ℕ) → 8 * first + length bytes ≤ 8 * length words →
    8 * skipped + 16 ≤ length bytes → ((i : ℕ) → get_or bytes i 0 < 256) →
    low ≡ number_of_bytes (take 8 (drop (8 * skipped) bytes)) → high ≡ number_of_bytes (take 8 (drop (8 * skipped + 8) bytes)) →
    bytes_of_words (set (set words (first + skipped) low) (first + skipped + 1) high)
    ≡ paste (bytes_of_words words) (8 * first + 8 * skipped) (take 16 (drop (8 * skipped) bytes)) 16
two_set words first skipped bytes low high room there small is_low is_high =
    let once : List ℕ = set words (first + skipped) low in
    let kept : length once ≡ length words = length-set words (first + skipped) low in
    let d : List ℕ = bytes_of_words words in
    let from : ℕ = 8 * skipped in
    let place : 8 * (first + skipped) ≡ 8 * first + from = omega arith in
    whole_set once (first + skipped + 1) bytes (from + 8) high (omega (arith, kept)) (omega arith) small is_high
    ∙ ap (λ e. paste e (8 * (first + skipped + 1)) (take 8 (drop (from + 8) bytes)) 8)
    (whole_set words (first + skipped) bytes from low (omega arith) (omega arith) small is_low)
    ∙ ap (λ p. paste (paste d p (take 8 (drop from bytes)) 8) (8 * (first + skipped + 1)) (take 8 (drop (from + 8) bytes)) 8) place
    ∙ paste_next d (8 * first + from) bytes from 8 8 (8 * (first + skipped + 1)) (from + 8) 16 (omega arith) (omega arith) (omega arith)
    (omega arith) (omega (arith, words_hold words))
