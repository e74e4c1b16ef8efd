-- Bytes and their words.
use Rattle.std.proofs.Common.{◌≡◌, ◌<◌, ◌≤◌, ◌+◌, ◌*◌, ◌/◌, ◌%◌, ◌^◌, ◌++◌, ◌∙◌, ℕ, zero, suc, List, [], ◌∷◌, length, get_or, take, drop, append_assoc, append-nil, length-drop, get_or-drop, take-append-drop, refl, sym, ap, ap₂, arith}
use Rattle.iom_mem.specs.Lent.{memory_of}
use Rattle.iom_mem.specs.Memory.{Memory}
use Rattle.iom_mem.specs.Words.{bytes_of_words}
use Rattle.std.proofs.lemmas.List.{drop-drop, length-take-le, nil_from_length, take_more}
use Rattle.iom_bits.specs.Bytes.{bytes_of_number, number_of_bytes}
use Rattle.iom_mem.proofs.Digits.{number_of_own, own_of_number}
use Rattle.iom_mem.proofs.WordBytes.{bytes_of_append, words_hold}
use Rattle.iom_saved.specs.Bytes.{memory_words, words_in, words_of_bytes}
use Rattle.iom_blk.specs.Sound.{IsDisk}
use Rattle.iom_saved.specs.Whole.{IsWhole}

-- the words in the bytes of words
pub words_back : (words : List ℕ) → ((i : ℕ) → get_or words i 0 < 2 ^ 64) → words_in (length words) (bytes_of_words words) ≡ words
unfolding words_in bytes_of_words
words_back [] small = refl
words_back (word ∷ words) small =
    ap₂ (λ (w : ℕ) (ws : List ℕ). w ∷ ws) (number_of_own 8 word (small 0)) (words_back words (λ i. small (suc i)))

pub counted_back : (words bytes : List ℕ) → ((i : ℕ) → get_or words i 0 < 2 ^ 64) → bytes ≡ bytes_of_words words →
    words_of_bytes bytes ≡ length words ∷ words
counted_back words bytes small are =
    let size : length (bytes_of_words words) ≡ 8 * length words = words_hold words in
    let count : length (bytes_of_words words) / 8 ≡ length words = omega (arith, size) in
    ap words_of_bytes are ∙ ap (λ (n : ℕ). n ∷ words_in n (bytes_of_words words)) count
    ∙ ap (λ (ws : List ℕ). length words ∷ ws) (words_back words small)

pub put_counted : (words start mid new : List ℕ) → ((i : ℕ) → get_or words i 0 < 2 ^ 64) → mid ≡ start ++ length words ∷ [] →
    new ≡ mid ++ words → new ≡ start ++ words_of_bytes (bytes_of_words words)
put_counted words start mid new small first second =
    second ∙ ap (λ (l : List ℕ). l ++ words) first ∙ append_assoc start (length words ∷ []) words
    ∙ ap (λ (ws : List ℕ). start ++ ws) (sym (counted_back words (bytes_of_words words) small refl))

pub put_based : (memory : Memory) (bytes start mid new : List ℕ) (base : ℕ) → base ≡ memory.base → bytes ≡ memory.bytes →
    mid ≡ start ++ base ∷ [] → new ≡ mid ++ words_of_bytes bytes → new ≡ start ++ memory_words memory
put_based memory bytes start mid new base at are first second =
    second ∙ ap (λ (l : List ℕ). l ++ words_of_bytes bytes) first ∙ append_assoc start (base ∷ []) (words_of_bytes bytes)
    ∙ ap (λ (n : ℕ). start ++ (n ∷ words_of_bytes bytes)) at ∙ ap (λ (bs : List ℕ). start ++ (memory.base ∷ words_of_bytes bs)) are

pub memory_back : (memory : Memory) (base : ℕ) (words : List ℕ) → ((i : ℕ) → get_or words i 0 < 2 ^ 64) → memory ≡ memory_of base words →
    memory_words memory ≡ base ∷ length words ∷ words
memory_back memory base words small made =
    ap memory_words made ∙ ap (λ (ws : List ℕ). base ∷ ws) (counted_back words (bytes_of_words words) small refl)

-- one word more
pub words_more : (i : ℕ) (bytes : List ℕ) → words_in (suc i) bytes ≡ words_in i bytes ++ number_of_bytes (take 8 (drop (8 * i) bytes)) ∷ []
unfolding words_in
words_more zero bytes = refl
words_more (suc i) bytes =
    let place : 8 + 8 * i ≡ 8 * suc i = omega arith in
    let there : drop (8 * i) (drop 8 bytes) ≡ drop (8 * suc i) bytes = drop-drop (8 * i) 8 bytes ∙ ap (λ (n : ℕ). drop n bytes) place in
    ap (λ (ws : List ℕ). number_of_bytes (take 8 bytes) ∷ ws)
    (words_more i (drop 8 bytes) ∙ ap (λ (l : List ℕ). words_in i (drop 8 bytes) ++ number_of_bytes (take 8 l) ∷ []) there)

pub put_more : (i : ℕ) (bytes start out new : List ℕ) (word : ℕ) → out ≡ start ++ words_in i bytes →
    word ≡ number_of_bytes (take 8 (drop (8 * i) bytes)) → new ≡ out ++ word ∷ [] → new ≡ start ++ words_in (i + 1) bytes
put_more i bytes start out new word first is second =
    let step : suc i ≡ i + 1 = omega arith in
    second ∙ ap (λ (l : List ℕ). l ++ word ∷ []) first ∙ append_assoc start (words_in i bytes) (word ∷ [])
    ∙ ap (λ (w : ℕ). start ++ (words_in i bytes ++ w ∷ [])) is ∙ sym (ap (λ (l : List ℕ). start ++ l) (words_more i bytes))
    ∙ ap (λ (n : ℕ). start ++ words_in n bytes) step

-- the bytes of one word more
pub bytes_put : (words : List ℕ) (i : ℕ) (out new : List ℕ) → i < length words → out ≡ bytes_of_words (take i words) →
    new ≡ out ++ bytes_of_number 8 (get_or words i 0) → new ≡ bytes_of_words (take (i + 1) words)
unfolding bytes_of_words
bytes_put words i out new within first second =
    second ∙ ap (λ (l : List ℕ). l ++ bytes_of_number 8 (get_or words i 0)) first
    ∙ sym (ap (λ (l : List ℕ). bytes_of_words (take i words) ++ l) (append-nil (bytes_of_number 8 (get_or words i 0))))
    ∙ sym (bytes_of_append (take i words) (get_or words i 0 ∷ [])) ∙ sym (ap bytes_of_words (take_more words i 0 within))

taken_small : (n : ℕ) (bytes : List ℕ) → ((i : ℕ) → get_or bytes i 0 < 256) → (i : ℕ) → get_or (take n bytes) i 0 < 256
taken_small zero bytes small i = omega arith
taken_small (suc n) [] small i = omega arith
taken_small (suc n) (byte ∷ bytes) small zero = small 0
taken_small (suc n) (byte ∷ bytes) small (suc i) = taken_small n bytes (λ k. small (suc k)) i

-- the bytes of the words in whole words of bytes
pub whole_back : (count : ℕ) (bytes : List ℕ) → length bytes ≡ 8 * count → ((i : ℕ) → get_or bytes i 0 < 256) →
    bytes_of_words (words_in count bytes) ≡ bytes
unfolding words_in bytes_of_words
whole_back zero bytes size small = sym (nil_from_length bytes (omega (arith, size)))
whole_back (suc count) bytes size small =
    let some : 8 ≤ length bytes = omega (arith, size) in
    let eight : length (take 8 bytes) ≡ 8 = length-take-le 8 bytes some in
    let left : length (drop 8 bytes) ≡ 8 * count = length-drop 8 bytes ∙ omega (arith, size) in
    let low : (i : ℕ) → get_or (take 8 bytes) i 0 < 256 = taken_small 8 bytes small in
    let high : (i : ℕ) → get_or (drop 8 bytes) i 0 < 256 = λ i. rw (get_or-drop 8 bytes i 0) (small (8 + i)) in
    let first : bytes_of_number 8 (number_of_bytes (take 8 bytes)) ≡ take 8 bytes =
    ap (λ (n : ℕ). bytes_of_number n (number_of_bytes (take 8 bytes))) (sym eight) ∙ own_of_number (take 8 bytes) low in
    ap₂ (λ (front back : List ℕ). front ++ back) first (whole_back count (drop 8 bytes) left high) ∙ take-append-drop 8 bytes

digits_small : (count n i : ℕ) → get_or (bytes_of_number count n) i 0 < 256
digits_small zero n i = omega arith
digits_small (suc count) n zero = omega arith
digits_small (suc count) n (suc i) = digits_small count (n / 256) i

joined_small : (front back : List ℕ) → ((i : ℕ) → get_or front i 0 < 256) → ((i : ℕ) → get_or back i 0 < 256) → (i : ℕ) → get_or (front ++ back) i 0 < 256
joined_small [] back first second i = second i
joined_small (byte ∷ front) back first second zero = first 0
joined_small (byte ∷ front) back first second (suc i) = joined_small front back (λ k. first (suc k)) second i

words_small : (words : List ℕ) (i : ℕ) → get_or (bytes_of_words words) i 0 < 256
unfolding bytes_of_words
words_small [] i = omega arith
words_small (word ∷ words) i = joined_small (bytes_of_number 8 word) (bytes_of_words words) (digits_small 8 word) (words_small words) i

pub whole_of_words : (words bytes : List ℕ) → bytes ≡ bytes_of_words words → IsWhole bytes
whole_of_words words bytes are =
    let size : length bytes ≡ 8 * length words = ap length are ∙ words_hold words in
    record { whole = omega (arith, size); small = λ i. rw are (words_small words i) }

pub words_are : (bytes start new : List ℕ) → length bytes % 8 ≡ 0 → ((i : ℕ) → get_or bytes i 0 < 256) → start ≡ [] →
    new ≡ start ++ words_in (length bytes / 8) bytes → bytes ≡ bytes_of_words new
words_are bytes start new whole small empty are =
    let size : length bytes ≡ 8 * (length bytes / 8) = omega (arith, whole) in
    sym (whole_back (length bytes / 8) bytes size small)
    ∙ sym (ap bytes_of_words (are ∙ ap (λ (l : List ℕ). l ++ words_in (length bytes / 8) bytes) empty))

pub whole_disk : (disk bytes : List ℕ) → IsDisk disk → bytes ≡ disk → ((i : ℕ) → get_or bytes i 0 < 256) → IsWhole disk
whole_disk disk bytes legal are small =
    record { whole = omega (arith, legal.whole); small = λ i. rw are at (small i) }
