-- The first word of a text as a number.
use Rattle.std.proofs.Common.{◌≡◌, ◌-◌, ◌<◌, ℕ, List, [], ◌∷◌, Bool, true, false, Option, Some, None, IfSome, Bor, length, length-drop, get_or, take, drop, codes, bytes_eq, sym, ◌∙◌, ap, refl, arith, inl, inr, ◌++◌}
use Rattle.std.specs.List.{position_or_len}
use Rattle.std.specs.Option.{option_map}
use Rattle.std.proofs.lemmas.Bool.{cases_lt}
use Rattle.std.proofs.lemmas.List.Sums.{position_or_len_is}
use Rattle.std.proofs.lemmas.Slice.Eq.{bytes_eq-Decides}
use Rattle.std.proofs.lemmas.List.{take-append-drop, take_all, drop_all, nil_from_length}
use Rattle.iom_text.specs.Words.{is_end, words_of, number_in, number, first_number}
use Rattle.iom_text.proofs.Cuts.{past, some_of, none_of, one_more}
use Rattle.iom_text.proofs.Leading.{the_word}

-- a byte that is none of an end is the word's
inside_take : (c : ℕ) (text : List ℕ) → is_end c ≡ false → the_word (c ∷ text) ≡ c ∷ the_word text
inside_take c text other = rw other (one_more _ c text).0

inside_drop : (c : ℕ) (text : List ℕ) → is_end c ≡ false →
    drop (position_or_len is_end (c ∷ text)) (c ∷ text) ≡ drop (position_or_len is_end text) text
inside_drop c text other = rw other (one_more _ c text).1

is_true : (b : Bool) → ¬ (b ≡ true) → b ≡ false
is_true true other = absurd (other refl)
is_true false other = refl

from_true : (xs ys : List ℕ) → bytes_eq xs ys ≡ true → xs ≡ ys
from_true xs ys is = (bytes_eq-Decides xs ys).0 is

to_true : (xs : List ℕ) → bytes_eq (take 2 (48 ∷ 120 ∷ xs)) (codes "0x") ≡ true
to_true xs = refl

hexed_is : (text : List ℕ) → bytes_eq (take 2 text) (codes "0x") ≡ true → text ≡ 48 ∷ 120 ∷ drop 2 text
hexed_is text is = sym (take-append-drop 2 text) ∙ ap (λ l. l ++ drop 2 text) (from_true (take 2 text) (codes "0x") is)

-- a word begins with `0x` where its text does
not_hexed : (text : List ℕ) → bytes_eq (take 2 text) (codes "0x") ≡ false → bytes_eq (take 2 (the_word text)) (codes "0x") ≡ false
not_hexed text other = is_true (bytes_eq (take 2 (the_word text)) (codes "0x")) (λ is.
    let all : text ≡ 48 ∷ 120 ∷ (drop 2 (the_word text) ++ drop (position_or_len is_end text) text) =
    sym (take-append-drop (position_or_len is_end text) text) ∙ ap (λ l. l ++ drop (position_or_len is_end text) text) (hexed_is (the_word text) is) in
    cc (ap (λ l. bytes_eq (take 2 l) (codes "0x")) all, other))

-- the word and what follows `0x`
hexed_word : (text : List ℕ) → bytes_eq (take 2 text) (codes "0x") ≡ true →
    (the_word text ≡ 48 ∷ 120 ∷ the_word (drop 2 text)) × (drop (position_or_len is_end text) text ≡ drop (position_or_len is_end (drop 2 text)) (drop 2 text))
hexed_word text is =
    let all : text ≡ 48 ∷ 120 ∷ drop 2 text = hexed_is text is in (
      ap the_word all ∙ inside_take 48 (120 ∷ drop 2 text) refl ∙ ap (λ l. 48 ∷ l) (inside_take 120 (drop 2 text) refl),
      ap (λ l. drop (position_or_len is_end l) l) all ∙ inside_drop 48 (120 ∷ drop 2 text) refl ∙ inside_drop 120 (drop 2 text) refl,
    )

-- what the words of a text are where the one at its front has a byte
first_words : (text : List ℕ) → 0 < length (the_word (past text)) →
    words_of text ≡ the_word (past text) ∷ words_of (drop (position_or_len is_end (past text)) (past text))
first_words text some = some_of text some

hexed_some : (text : List ℕ) → bytes_eq (take 2 text) (codes "0x") ≡ true → 0 < length (the_word text)
hexed_some text is = omega (arith, ap length (hexed_word text is).0)

pub hexed_number : (text : List ℕ) → bytes_eq (take 2 (past text)) (codes "0x") ≡ true →
    number_in 16 (the_word (drop 2 (past text))) ≡ first_number (words_of text)
unfolding number
hexed_number text is =
    sym (ap first_number (first_words text (hexed_some (past text) is)) ∙ ap number (hexed_word (past text) is).0)

pub hexed_rest : (text : List ℕ) → bytes_eq (take 2 (past text)) (codes "0x") ≡ true →
    words_of (drop (position_or_len is_end (drop 2 (past text))) (drop 2 (past text))) ≡ drop 1 (words_of text)
hexed_rest text is =
    sym (ap (drop 1) (first_words text (hexed_some (past text) is)) ∙ ap words_of (hexed_word (past text) is).1)

no_number : number_in 10 [] ≡ None
unfolding number_in
no_number = refl

by_number : (word : List ℕ) → bytes_eq (take 2 word) (codes "0x") ≡ false → number word ≡ number_in 10 word
unfolding number
by_number word other = rw other refl

pub plain_number : (text : List ℕ) → bytes_eq (take 2 (past text)) (codes "0x") ≡ false →
    number_in 10 (the_word (past text)) ≡ first_number (words_of text)
plain_number text other =
    elim (cases_lt 0 (length (the_word (past text)))) as (λ _. number_in 10 (the_word (past text)) ≡ first_number (words_of text)) [
      | inl some ↦ sym (ap first_number (first_words text some) ∙ by_number (the_word (past text)) (not_hexed (past text) other))
      | inr none ↦
          let empty : the_word (past text) ≡ [] = nil_from_length (the_word (past text)) (omega arith) in
          ap (number_in 10) empty ∙ no_number ∙ sym (ap first_number (none_of text (omega arith)))
    ]

pub plain_rest : (text : List ℕ) (value : ℕ) → Some value ≡ number_in 10 (the_word (past text)) →
    words_of (drop (position_or_len is_end (past text)) (past text)) ≡ drop 1 (words_of text)
plain_rest text value is =
    elim (cases_lt 0 (length (the_word (past text)))) as (λ _. words_of (drop (position_or_len is_end (past text)) (past text)) ≡ drop 1 (words_of text)) [
      | inl some ↦ sym (ap (drop 1) (first_words text some))
      | inr none ↦
          let empty : the_word (past text) ≡ [] = nil_from_length (the_word (past text)) (omega arith) in
          absurd (cc (is, ap (number_in 10) empty, no_number))
    ]

-- what a call leaves of a text after its number: the words that follow the number
pub then_rest : (found : Option (ℕ × Bor (List ℕ))) (number : Option ℕ) (after : List ℕ) (words : List (List ℕ)) →
    option_map (λ cut. cut.0) found ≡ number → IfSome found (λ cut. cut.1.now ≡ after) →
    ((value : ℕ) → Some value ≡ number → words_of after ≡ words) → IfSome found (λ cut. words_of cut.1.now ≡ words)
then_rest None number after words is rest follows = tt
then_rest (Some cut) number after words is rest follows = ap words_of rest ∙ follows cut.0 is

pub all_left : (text : List ℕ) → take (length text - 2) (drop 2 text) ≡ drop 2 text
all_left text = take_all (length text - 2) (drop 2 text) (omega (arith, length-drop 2 text))

-- a text of one word, with blanks before it
pub one_word_left : (text : List ℕ) → ((k : ℕ) → k < length (past text) → is_end (get_or (past text) k 0) ≡ false) → 0 < length (past text) →
    words_of text ≡ past text ∷ []
unfolding words_of
one_word_left text inside some =
    let end : position_or_len is_end (past text) ≡ length (past text) =
    position_or_len_is is_end (past text) (length (past text)) 0 (omega arith) inside (λ below. absurd (omega (arith, below))) in
    let all : the_word (past text) ≡ past text = take_all (position_or_len is_end (past text)) (past text) (omega (arith, end)) in
    let left : drop (position_or_len is_end (past text)) (past text) ≡ [] = drop_all (position_or_len is_end (past text)) (past text) (omega (arith, end)) in
    first_words text (omega (arith, ap length all)) ∙ ap (λ l. l ∷ words_of (drop (position_or_len is_end (past text)) (past text))) all
    ∙ ap (λ l. past text ∷ words_of l) left
