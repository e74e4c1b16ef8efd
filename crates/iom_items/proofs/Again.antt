-- The operands that a line has are read again.
use Rattle.std.proofs.Common.{◌≡◌, ◌≢◌, ℕ, ◌<◌, ◌^◌, ◌==◌, ◌&&◌, ◌||◌, if◌then◌else◌, Bool, true, false, not, List, [], ◌∷◌, ◌++◌, length, length-append, map, drop, bytes_eq, All, Option, Some, None, refl, sym, ap, ◌∙◌, inl, inr, ◌⊎◌, append_assoc, append-nil, arith}
use Rattle.std.specs.List.{list_all, AllByRecursion}
use Rattle.std.proofs.lemmas.Bool.{and_parts, or_parts, cases_Bool}
use Rattle.std.proofs.lemmas.Slice.Eq.{bytes_eq-Decides}
use Rattle.iom_text.specs.Texts.{hexadecimal}
use Rattle.iom_text.specs.Words.{words_of}
use Rattle.iom_items.specs.Operands.{Operand, operand_of, has_key, is_given, is_one_of, are_operands, number_for, value_of}
use Rattle.iom_items.specs.Given.{IsOperand}
use Rattle.iom_items.specs.Lines.{Pair, operand, with_operands}
use Rattle.iom_items.proofs.Numerals.{is_word, hexed_inside, hexed_read}
use Rattle.iom_items.proofs.Joined.{is_bare, words_joined, one_word, word_bare, bare_joined, inside_joined}
use Rattle.iom_items.proofs.Operating.{all_none, all_both, operand_found}
use Rattle.iom_items.proofs.Saying.{Says}

-- the word of an operand: its text in a line, after the blank
abbrev pub word_for : Pair → List ℕ
word_for pair = drop 1 (operand pair.0 pair.1)

abbrev pub words_for_all : List Pair → List (List ℕ)
words_for_all pairs = map word_for pairs

abbrev pub keys_of : List Pair → List (List ℕ)
keys_of pairs = map (λ pair. pair.0) pairs

-- no byte of a key is `=` or ends a word
abbrev pub is_key : List ℕ → Bool
is_key key = list_all (λ c. not (c == 61)) key && is_word key

word_parts : (key : List ℕ) (n : ℕ) → word_for (key, n) ≡ key ++ 61 ∷ hexadecimal n
word_parts [] n = refl
word_parts (c ∷ key) n = ap (λ word. c ∷ word) (word_parts key n)

other_byte : (c : ℕ) → not (c == 61) ≡ true → c ≢ 61
other_byte c is same = grind (arith, is, same)

all_other : (key : List ℕ) → list_all (λ c. not (c == 61)) key ≡ true → All (λ c. c ≢ 61) key
all_other [] is = all_none (λ c. c ≢ 61)
all_other (c ∷ key) is =
    let parts = and_parts (not (c == 61)) (list_all (λ c. not (c == 61)) key) is in
    all_both (λ c. c ≢ 61) c key (other_byte c parts.0) (all_other key parts.1)

pub is_operand : (pair : Pair) → is_key pair.0 ≡ true → IsOperand pair.0 (hexadecimal pair.1) (word_for pair)
is_operand pair key =
    let parts = and_parts (list_all (λ c. not (c == 61)) pair.0) (is_word pair.0) key in
    record { parts = word_parts pair.0 pair.1; first = all_other pair.0 parts.0 }

abbrev cut : Pair → Operand
cut pair = record { key = pair.0; value = hexadecimal pair.1 }

cut_is : (pair : Pair) → is_key pair.0 ≡ true → operand_of (word_for pair) ≡ Some (cut pair)
cut_is pair key = operand_found pair.0 (hexadecimal pair.1) (word_for pair) (is_operand pair key)

word_inside : (pair : Pair) → is_key pair.0 ≡ true → is_word (word_for pair) ≡ true
word_inside pair key =
    let parts = and_parts (list_all (λ c. not (c == 61)) pair.0) (is_word pair.0) key in
    ap is_word (word_parts pair.0 pair.1) ∙ inside_joined pair.0 (61 ∷ hexadecimal pair.1) parts.1 (hexed_inside pair.1)

word_some : (pair : Pair) → 0 < length (word_for pair)
word_some pair = omega (arith, ap length (word_parts pair.0 pair.1), length-append pair.0 (61 ∷ hexadecimal pair.1))

-- a text with operands has its own words, then theirs
abbrev pub are_keys : List Pair → Bool
are_keys pairs = list_all (λ pair. is_key pair.0) pairs

pub with_words : (text : List ℕ) (pairs : List Pair) → is_bare text ≡ true → are_keys pairs ≡ true →
    words_of (with_operands text pairs) ≡ words_of text ++ words_for_all pairs
with_words text [] bare keys = sym (append-nil (words_of text))
with_words text (pair ∷ pairs) bare keys =
    let parts = and_parts (is_key pair.0) (are_keys pairs) keys in
    let inside : is_word (word_for pair) ≡ true = word_inside pair parts.0 in
    with_words (text ++ operand pair.0 pair.1) pairs (bare_joined text (32 ∷ word_for pair) bare (word_bare (word_for pair) inside)) parts.1
    ∙ ap (λ words. words ++ words_for_all pairs) (words_joined text (word_for pair) bare ∙ ap (λ words. words_of text ++ words) (one_word (word_for pair) inside (word_some pair)))
    ∙ append_assoc (words_of text) (word_for pair ∷ []) (words_for_all pairs)

-- whether keys pass as those of operands, and the number that pairs have for a key
abbrev pub among : List ℕ → List (List ℕ) → Bool
among key [] = false
among key (other ∷ others) = bytes_eq other key || among key others

abbrev pub once_of : List (List ℕ) → List ℕ → List (List ℕ) → Bool
once_of [] key later = false
once_of (other ∷ others) key later = bytes_eq key other && not (among other later) || once_of others key later

abbrev pub are_fine : List (List ℕ) → List (List ℕ) → Bool
are_fine known [] = true
are_fine known (key ∷ keys) = once_of known key keys && are_fine known keys

abbrev pub told_for : List ℕ → List Pair → Option ℕ
told_for key [] = Some 0
told_for key (pair ∷ pairs) = if bytes_eq pair.0 key then Some pair.1 else told_for key pairs

pub given_same : (key : List ℕ) (pairs : List Pair) → are_keys pairs ≡ true → is_given key (words_for_all pairs) ≡ among key (keys_of pairs)
given_same key [] keys = refl
given_same key (pair ∷ pairs) keys =
    let parts = and_parts (is_key pair.0) (are_keys pairs) keys in
    ap (λ operand. has_key key operand || is_given key (words_for_all pairs)) (cut_is pair parts.0)
    ∙ ap (λ b. bytes_eq pair.0 key || b) (given_same key pairs parts.1)

once_same : (known : List (List ℕ)) (key value : List ℕ) (later : List Pair) → are_keys later ≡ true →
    is_one_of known (Some (record { key = key; value = value })) (words_for_all later) ≡ once_of known key (keys_of later)
once_same [] key value later keys = refl
once_same (other ∷ others) key value later keys =
    ap (λ b. bytes_eq key other && not b || is_one_of others (Some (record { key = key; value = value })) (words_for_all later)) (given_same other later keys)
    ∙ ap (λ b. bytes_eq key other && not (among other (keys_of later)) || b) (once_same others key value later keys)

fine_same : (known : List (List ℕ)) (pairs : List Pair) → are_keys pairs ≡ true → are_operands known (words_for_all pairs) ≡ are_fine known (keys_of pairs)
fine_same known [] keys = refl
fine_same known (pair ∷ pairs) keys =
    let parts = and_parts (is_key pair.0) (are_keys pairs) keys in
    ap (λ operand. is_one_of known operand (words_for_all pairs) && are_operands known (words_for_all pairs)) (cut_is pair parts.0)
    ∙ ap (λ b. b && are_operands known (words_for_all pairs)) (once_same known pair.0 (hexadecimal pair.1) pairs parts.1)
    ∙ ap (λ b. once_of known pair.0 (keys_of pairs) && b) (fine_same known pairs parts.1)

-- numbers that a text is read as
abbrev pub AreSmall : List Pair → Type 0
AreSmall pairs = AllByRecursion (λ pair. pair.1 < 2 ^ 64) pairs

pub told_same : (key : List ℕ) (pairs : List Pair) → are_keys pairs ≡ true → AreSmall pairs → value_of key (words_for_all pairs) ≡ told_for key pairs
told_same key [] keys small = refl
told_same key (pair ∷ pairs) keys small =
    let parts = and_parts (is_key pair.0) (are_keys pairs) keys in
    ap (λ operand. if has_key key operand then number_for operand else value_of key (words_for_all pairs)) (cut_is pair parts.0)
    ∙ ap (λ found. if bytes_eq pair.0 key then found else value_of key (words_for_all pairs)) (hexed_read pair.1 small.0)
    ∙ ap (λ found. if bytes_eq pair.0 key then Some pair.1 else found) (told_same key pairs parts.1 small.1)

-- a line can have `shown` for all these operands: known keys, each once, with its number, and 0 for a key that isn't shown
pub record AreShownBy (pairs shown : List Pair) : Type 0 where
  pub keys : are_keys shown ≡ true
  pub fine : are_fine (keys_of pairs) (keys_of shown) ≡ true
  pub own : AllByRecursion (λ pair. told_for pair.0 shown ≡ Some pair.1) pairs
  pub small : AreSmall shown

-- operands that are all shown
abbrev pub AreTold : List Pair → Type 0
AreTold pairs = AreShownBy pairs pairs

own_values : (all pairs : List Pair) → ((key : List ℕ) → value_of key (words_for_all all) ≡ told_for key all) →
    AllByRecursion (λ pair. told_for pair.0 all ≡ Some pair.1) pairs → AllByRecursion (λ pair. value_of pair.0 (words_for_all all) ≡ Some pair.1) pairs
own_values all [] same own = tt
own_values all (pair ∷ pairs) same own = (same pair.0 ∙ own.0, own_values all pairs same own.1)

-- the words of a line say the operands that it was made from
pub shown_say : (pairs shown : List Pair) → AreShownBy pairs shown → Says pairs (words_for_all shown)
shown_say pairs shown told = record {
  are = fine_same (keys_of pairs) shown told.keys ∙ told.fine;
  values = own_values shown pairs (λ key. told_same key shown told.keys told.small) told.own;
}

pub words_say : (pairs : List Pair) → AreTold pairs → Says pairs (words_for_all pairs)
words_say pairs told = shown_say pairs pairs told

-- Operands that say the same have the same number for each key.
key_is : (one other : List ℕ) → bytes_eq one other ≡ true → one ≡ other
key_is one other is = (bytes_eq-Decides one other).0 is

not_one : (key : List ℕ) (known : List (List ℕ)) (operand : Option Operand) (later : List (List ℕ)) → among key known ≡ false →
    is_one_of known operand later ≡ true → has_key key operand ≡ false
not_one key known None later other is = refl
not_one key [] (Some operand) later other is = absurd cc
not_one key (first ∷ known) (Some operand) later other is =
    let apart = or_parts (bytes_eq first key) (among key known) other in
    elim (cases_Bool (bytes_eq operand.key first)) as (λ _. bytes_eq operand.key key ≡ false) [
      | inl same ↦ ap (λ one. bytes_eq one key) (key_is operand.key first same) ∙ apart.0
      | inr another ↦
          not_one key known (Some operand) later apart.1
          (sym (ap (λ b. b && not (is_given first later) || is_one_of known (Some operand) later) another) ∙ is)
    ]

none_for : (key : List ℕ) (known words : List (List ℕ)) → among key known ≡ false → are_operands known words ≡ true → value_of key words ≡ Some 0
none_for key known [] other are = refl
none_for key known (word ∷ words) other are =
    let parts = and_parts (is_one_of known (operand_of word) words) (are_operands known words) are in
    ap (λ has. if has then number_for (operand_of word) else value_of key words) (not_one key known (operand_of word) words other parts.0)
    ∙ none_for key known words other parts.1

found_or_none : (key : List ℕ) (pairs : List Pair) (words : List (List ℕ)) → AllByRecursion (λ pair. value_of pair.0 words ≡ Some pair.1) pairs →
    (value_of key words ≡ told_for key pairs) ⊎ ((told_for key pairs ≡ Some 0) × (among key (keys_of pairs) ≡ false))
found_or_none key [] words values = inr (refl, refl)
found_or_none key (pair ∷ pairs) words values =
    elim (cases_Bool (bytes_eq pair.0 key)) as
    (λ _. (value_of key words ≡ told_for key (pair ∷ pairs)) ⊎ ((told_for key (pair ∷ pairs) ≡ Some 0) × (among key (keys_of (pair ∷ pairs)) ≡ false))) [
      | inl same ↦ inl (ap (λ key. value_of key words) (sym (key_is pair.0 key same)) ∙ values.0 ∙ rw same refl)
      | inr other ↦ rw other (found_or_none key pairs words values.1)
    ]

pub said_for : (key : List ℕ) (pairs : List Pair) (words : List (List ℕ)) → Says pairs words → value_of key words ≡ told_for key pairs
said_for key pairs words says = elim (found_or_none key pairs words says.values) as (λ _. value_of key words ≡ told_for key pairs) [
  | inl found ↦ found
  | inr none ↦ none_for key (keys_of pairs) words none.1 says.are ∙ sym none.0
]

pub same_values : (pairs : List Pair) (one other : List (List ℕ)) → Says pairs one → Says pairs other → (key : List ℕ) →
    value_of key one ≡ value_of key other
same_values pairs one other first second key = said_for key pairs one first ∙ sym (said_for key pairs other second)
