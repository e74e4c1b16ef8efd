-- The words of a text, cut off one by one.
use Rattle.std.proofs.Common.{◌≡◌, ◌==◌, ◌||◌, ◌+◌, ◌-◌, ◌<◌, ◌++◌, ℕ, suc, List, [], ◌∷◌, Bool, true, false, not, nat_lt, length, take, drop, filter, sym, ◌∙◌, ap, refl, arith, append_assoc}
use Rattle.std.proofs.lemmas.Bool.{or_parts}
use Rattle.std.specs.List.{slice_split, onto_first, position_or_len}
use Rattle.std.proofs.lemmas.Grind.{common_steps}
use Rattle.std.proofs.lemmas.List.Splits.{slice_split-cons_yes, slice_split-cons_no}
use Rattle.iom_text.specs.Words.{is_blank, is_end, before_comment, words_of}

-- the parts that words are taken from
abbrev parts : List ℕ → List (List ℕ)
parts text = slice_split is_blank (before_comment text)

abbrev kept : List (List ℕ) → List (List ℕ)
kept all = filter (λ word. nat_lt 0 (length word)) all

pub one_more : (n c : ℕ) (text : List ℕ) → (take (1 + n) (c ∷ text) ≡ c ∷ take n text) × (drop (1 + n) (c ∷ text) ≡ drop n text)
one_more n c text =
    let next : 1 + n ≡ suc n = omega arith in
    (ap (λ k. take k (c ∷ text)) next, ap (λ k. drop k (c ∷ text)) next)

not_comment : (c : ℕ) → is_blank c ≡ true → (c == 35) ≡ false
not_comment c blank = grind (arith, common_steps)

before_no : (c : ℕ) (text : List ℕ) → (c == 35) ≡ false → before_comment (c ∷ text) ≡ c ∷ before_comment text
before_no c text other = rw other (one_more _ c text).0

before_yes : (c : ℕ) (text : List ℕ) → (c == 35) ≡ true → before_comment (c ∷ text) ≡ []
before_yes c text is = rw is refl

parts_blank : (c : ℕ) (text : List ℕ) → is_blank c ≡ true → parts (c ∷ text) ≡ [] ∷ parts text
parts_blank c text blank =
    ap (slice_split is_blank) (before_no c text (not_comment c blank)) ∙ slice_split-cons_yes is_blank c (before_comment text) blank

parts_comment : (c : ℕ) (text : List ℕ) → (c == 35) ≡ true → parts (c ∷ text) ≡ [] ∷ []
parts_comment c text is = ap (slice_split is_blank) (before_yes c text is)

parts_word : (c : ℕ) (text : List ℕ) → is_end c ≡ false → parts (c ∷ text) ≡ onto_first c (parts text)
parts_word c text inside =
    let both : (is_blank c ≡ false) × ((c == 35) ≡ false) = or_parts (is_blank c) (c == 35) inside in
    ap (slice_split is_blank) (before_no c text both.1) ∙ slice_split-cons_no is_blank c (before_comment text) both.0

words_blank : (c : ℕ) (text : List ℕ) → is_blank c ≡ true → words_of (c ∷ text) ≡ words_of text
unfolding words_of
words_blank c text blank = ap kept (parts_blank c text blank)

-- blanks in front change nothing
past_blanks : (text : List ℕ) → words_of (drop (position_or_len (λ c. not (is_blank c)) text) text) ≡ words_of text
past_blanks [] = refl
past_blanks (c ∷ text) =
    let is : (b : Bool) → is_blank c ≡ b → words_of (drop (position_or_len (λ c. not (is_blank c)) (c ∷ text)) (c ∷ text)) ≡ words_of (c ∷ text) =
    λ b. elim b as (λ v. is_blank c ≡ v → words_of (drop (position_or_len (λ c. not (is_blank c)) (c ∷ text)) (c ∷ text)) ≡ words_of (c ∷ text)) [
      | true ↦ λ blank. rw blank (ap words_of (one_more _ c text).1 ∙ past_blanks text ∙ sym (words_blank c text blank))
      | false ↦ λ other. rw other refl
    ] in
    is (is_blank c) refl

-- the bytes before the first end are the first part; the words behind it are those of what is left
record Leads (text : List ℕ) : Type 0 where
  more : List (List ℕ)
  parts : parts text ≡ take (position_or_len is_end text) text ∷ more
  words : kept more ≡ words_of (drop (position_or_len is_end text) text)

leads_end : (c : ℕ) (text : List ℕ) (blank : Bool) → is_blank c ≡ blank → is_end c ≡ true → Leads (c ∷ text)
unfolding words_of
leads_end c text true blank end = record {
  more = parts text;
  parts = parts_blank c text blank ∙ rw end refl;
  words = rw end (sym (ap kept (parts_blank c text blank)));
}
leads_end c text false blank end =
    let comment : (c == 35) ≡ true = ap (λ b. b || (c == 35)) (sym blank) ∙ end in
    record {
      more = [];
      parts = parts_comment c text comment ∙ rw end refl;
      words = rw end (sym (ap kept (parts_comment c text comment)));
    }

leads : (text : List ℕ) → Leads text
unfolding words_of
leads [] = record { more = []; parts = refl; words = refl }
leads (c ∷ text) =
    let is : (b : Bool) → is_end c ≡ b → Leads (c ∷ text) = λ b. elim b as (λ v. is_end c ≡ v → Leads (c ∷ text)) [
      | true ↦ λ end. leads_end c text (is_blank c) refl end
      | false ↦ λ inside. let rest : Leads text = leads text in record {
        more = rest.more;
        parts = parts_word c text inside ∙ ap (onto_first c) rest.parts ∙ rw inside (ap (λ l. l ∷ rest.more) (sym (one_more _ c text).0));
        words = rw inside (rest.words ∙ ap words_of (sym (one_more _ c text).1));
      }
    ] in
    is (is_end c) refl

first_of : (text : List ℕ) → 0 < length (take (position_or_len is_end text) text) →
    words_of text ≡ take (position_or_len is_end text) text ∷ words_of (drop (position_or_len is_end text) text)
unfolding words_of
first_of text some =
    let it : Leads text = leads text in
    let there : nat_lt 0 (length (take (position_or_len is_end text) text)) ≡ true = grind arith in
    ap kept it.parts ∙ rw there (ap (λ more. take (position_or_len is_end text) text ∷ more) it.words)

abbrev pub past : List ℕ → List ℕ
past text = drop (position_or_len (λ c. not (is_blank c)) text) text

abbrev before_end : List ℕ → List ℕ
before_end text = take (position_or_len is_end text) text

past_blank : (c : ℕ) (text : List ℕ) → is_blank c ≡ true → past (c ∷ text) ≡ past text
past_blank c text blank = rw blank (one_more _ c text).1

past_other : (c : ℕ) (text : List ℕ) → is_blank c ≡ false → past (c ∷ text) ≡ c ∷ text
past_other c text other = rw other refl

-- no blank and no byte of a word: the comment, or nothing
none_at : (c : ℕ) (text : List ℕ) (end : Bool) → is_end c ≡ end → is_blank c ≡ false → length (before_end (c ∷ text)) ≡ 0 → words_of (c ∷ text) ≡ []
unfolding words_of
none_at c text true end other none =
    let comment : (c == 35) ≡ true = ap (λ b. b || (c == 35)) (sym other) ∙ end in
    ap kept (parts_comment c text comment)
none_at c text false inside other none =
    let longer : length (before_end (c ∷ text)) ≡ suc (length (before_end text)) = rw inside (ap length (one_more _ c text).0) in
    absurd (omega (arith, longer, none))

pub none_of : (text : List ℕ) → length (before_end (past text)) ≡ 0 → words_of text ≡ []
unfolding words_of
none_of [] none = refl
none_of (c ∷ text) none =
    let is : (b : Bool) → is_blank c ≡ b → words_of (c ∷ text) ≡ [] = λ b. elim b as (λ v. is_blank c ≡ v → words_of (c ∷ text) ≡ []) [
      | true ↦ λ blank. words_blank c text blank
          ∙ none_of text (sym (ap (λ l. length (before_end l)) (past_blank c text blank)) ∙ none)
      | false ↦ λ other. none_at c text (is_end c) refl other
          (sym (ap (λ l. length (before_end l)) (past_other c text other)) ∙ none)
    ] in
    is (is_blank c) refl

pub some_of : (text : List ℕ) → 0 < length (before_end (past text)) →
    words_of text ≡ before_end (past text) ∷ words_of (drop (position_or_len is_end (past text)) (past text))
some_of text some = sym (past_blanks text) ∙ first_of (past text) some

-- one word more is found
pub one_word : (all front rest more : List (List ℕ)) (word : List ℕ) (room count : ℕ) → count < room → rest ≡ word ∷ more →
    all ≡ front ++ take (room - count) rest → all ≡ (front ++ word ∷ []) ++ take (room - (count + 1)) more
one_word all front rest more word room count below next so_far =
    let left : room - count ≡ suc (room - (count + 1)) = omega arith in
    so_far ∙ ap (λ l. front ++ take (room - count) l) next ∙ ap (λ n. front ++ take n (word ∷ more)) left
    ∙ sym (append_assoc front (word ∷ []) (take (room - (count + 1)) more))
