-- The words of a text that a blank parts.
use Rattle.std.proofs.Common.{◌≡◌, ℕ, ◌<◌, ◌==◌, Bool, true, false, not, nat_lt, List, [], ◌∷◌, ◌++◌, length, filter, refl, sym, ap, ◌∙◌, inl, inr, arith}
use Rattle.std.specs.List.{list_all, slice_split, onto_first}
use Rattle.std.proofs.lemmas.Bool.{and_parts, and_from, cases_Bool, or_parts, lt-ltb}
use Rattle.std.proofs.lemmas.List.Elements.{filter-append}
use Rattle.std.proofs.lemmas.List.Splits.{slice_split-cons_yes, slice_split-cons_no, length-slice_split}
use Rattle.iom_text.specs.Words.{is_blank, is_end, before_comment, words_of}
use Rattle.iom_text.proofs.Cuts.{one_more}
use Rattle.iom_items.proofs.Numerals.{is_word}

-- no comment begins in a text
abbrev pub is_bare : List ℕ → Bool
is_bare text = list_all (λ c. not (c == 35)) text

pub turned : (b : Bool) → not b ≡ true → b ≡ false
turned true is = absurd cc
turned false is = refl

goes_on : (c : ℕ) (text : List ℕ) → (c == 35) ≡ false → before_comment (c ∷ text) ≡ c ∷ before_comment text
goes_on c text other = rw other (one_more _ c text).0

-- so a comment begins only in the text after it
before_joined : (first second : List ℕ) → is_bare first ≡ true → before_comment (first ++ second) ≡ first ++ before_comment second
before_joined [] second bare = refl
before_joined (c ∷ first) second bare =
    let parts = and_parts (not (c == 35)) (is_bare first) bare in
    goes_on c (first ++ second) (turned (c == 35) parts.0) ∙ ap (λ text. c ∷ text) (before_joined first second parts.1)

before_all : (text : List ℕ) → is_bare text ≡ true → before_comment text ≡ text
before_all [] bare = refl
before_all (c ∷ text) bare =
    let parts = and_parts (not (c == 35)) (is_bare text) bare in
    goes_on c text (turned (c == 35) parts.0) ∙ ap (λ text. c ∷ text) (before_all text parts.1)

onto_front : (c : ℕ) (parts others : List (List ℕ)) → 0 < length parts → onto_first c (parts ++ others) ≡ onto_first c parts ++ others
onto_front c [] others some = absurd (omega (arith, some))
onto_front c (part ∷ parts) others some = refl

split_joined : (first second : List ℕ) → slice_split is_blank (first ++ 32 ∷ second) ≡ slice_split is_blank first ++ slice_split is_blank second
split_joined [] second = slice_split-cons_yes is_blank 32 second refl
split_joined (c ∷ first) second =
    elim (cases_Bool (is_blank c)) as (λ _. slice_split is_blank (c ∷ (first ++ 32 ∷ second)) ≡ slice_split is_blank (c ∷ first) ++ slice_split is_blank second) [
      | inl is ↦
          slice_split-cons_yes is_blank c (first ++ 32 ∷ second) is ∙ ap (λ parts. [] ∷ parts) (split_joined first second)
          ∙ ap (λ parts. parts ++ slice_split is_blank second) (sym (slice_split-cons_yes is_blank c first is))
      | inr other ↦
          slice_split-cons_no is_blank c (first ++ 32 ∷ second) other ∙ ap (onto_first c) (split_joined first second)
          ∙ onto_front c (slice_split is_blank first) (slice_split is_blank second) (omega (arith, length-slice_split is_blank first))
          ∙ ap (λ parts. parts ++ slice_split is_blank second) (sym (slice_split-cons_no is_blank c first other))
    ]

pub words_joined : (first second : List ℕ) → is_bare first ≡ true → words_of (first ++ 32 ∷ second) ≡ words_of first ++ words_of second
unfolding words_of
words_joined first second bare =
    ap (λ text. filter (λ word. nat_lt 0 (length word)) (slice_split is_blank text)) (before_joined first (32 ∷ second) bare ∙ ap (λ text. first ++ text) (goes_on 32 second refl))
    ∙ ap (filter (λ word. nat_lt 0 (length word))) (split_joined first (before_comment second))
    ∙ filter-append (λ word. nat_lt 0 (length word)) (slice_split is_blank first) (slice_split is_blank (before_comment second))
    ∙ ap (λ text. filter (λ word. nat_lt 0 (length word)) (slice_split is_blank text) ++ words_of second) (sym (before_all first bare))

split_word : (word : List ℕ) → is_word word ≡ true → slice_split is_blank word ≡ word ∷ []
split_word [] inside = refl
split_word (c ∷ word) inside =
    let parts = and_parts (not (is_end c)) (is_word word) inside in
    slice_split-cons_no is_blank c word (or_parts (is_blank c) (c == 35) (turned (is_end c) parts.0)).0 ∙ ap (onto_first c) (split_word word parts.1)

pub word_bare : (word : List ℕ) → is_word word ≡ true → is_bare word ≡ true
word_bare [] inside = refl
word_bare (c ∷ word) inside =
    let parts = and_parts (not (is_end c)) (is_word word) inside in
    and_from (not (c == 35)) (is_bare word)
    (ap not (or_parts (is_blank c) (c == 35) (turned (is_end c) parts.0)).1) (word_bare word parts.1)

pub one_word : (word : List ℕ) → is_word word ≡ true → 0 < length word → words_of word ≡ word ∷ []
unfolding words_of
one_word word inside some =
    ap (λ text. filter (λ word. nat_lt 0 (length word)) (slice_split is_blank text)) (before_all word (word_bare word inside))
    ∙ ap (filter (λ word. nat_lt 0 (length word))) (split_word word inside) ∙ rw (lt-ltb 0 (length word) some) refl

pub bare_joined : (first second : List ℕ) → is_bare first ≡ true → is_bare second ≡ true → is_bare (first ++ second) ≡ true
bare_joined [] second one two = two
bare_joined (c ∷ first) second one two =
    let parts = and_parts (not (c == 35)) (is_bare first) one in
    and_from (not (c == 35)) (is_bare (first ++ second)) parts.0 (bare_joined first second parts.1 two)

pub inside_joined : (first second : List ℕ) → is_word first ≡ true → is_word second ≡ true → is_word (first ++ second) ≡ true
inside_joined [] second one two = two
inside_joined (c ∷ first) second one two =
    let parts = and_parts (not (is_end c)) (is_word first) one in
    and_from (not (is_end c)) (is_word (first ++ second)) parts.0 (inside_joined first second parts.1 two)
