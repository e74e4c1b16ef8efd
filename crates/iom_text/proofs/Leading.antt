-- Digits up to the end of their word.
use Rattle.std.proofs.Common.{◌≡◌, ◌&&◌, ◌+◌, ◌*◌, ◌-◌, ◌^◌, ◌<◌, ◌≤◌, ℕ, List, ◌∷◌, Bool, true, false, not, nat_lt, Option, Some, None, length, take, drop, get_or, sym, ◌∙◌, ap, refl, arith, inl, inr, length-drop, if◌then◌else◌}
use Rattle.std.specs.Char.{is_digit, digit_value}
use Rattle.std.specs.List.{list_all, position_or_len}
use Rattle.std.specs.Str.Parse.{digits_value, digits_value_after}
use Rattle.std.proofs.lemmas.List.{drop_more, get_or-take, take_all}
use Rattle.std.proofs.lemmas.List.Sums.{prefix_len-le-length, passes_at_first, fails_before_first}
use Rattle.std.proofs.lemmas.List.Folds.{length-prefix_len, list_all_at}
use Rattle.std.proofs.lemmas.Bool.{cases_lt}
use Rattle.std.proofs.lemmas.Grind.{common_steps}
use Rattle.iom_text.specs.Words.{is_end, number_in}

abbrev pub the_word : List ℕ → List ℕ
the_word text = take (position_or_len is_end text) text

true_isn't : (b : Bool) → b ≡ true → b ≡ false → ⊥
true_isn't true is other = cc other
true_isn't false is other = cc is

small : (c : ℕ) → is_end c ≡ true → c < 48
small c is = grind (arith, common_steps)

no_value : (c : ℕ) → c < 48 → digit_value c ≡ 36
no_value c less = let is : nat_lt c 48 ≡ true = grind arith in rw is refl

pub digit_inside : (radix c : ℕ) → radix ≤ 16 → digit_value c < radix → is_end c ≡ false
digit_inside radix c most is = by_end (is_end c) refl where
  by_end : (b : Bool) → is_end c ≡ b → b ≡ false
  by_end true end = absurd (omega (arith, no_value c (small c end)))
  by_end false end = refl

pub goes_on : (text : List ℕ) (at : ℕ) → at ≤ position_or_len is_end text → at < length text → is_end (get_or text at 0) ≡ false →
    at < position_or_len is_end text
goes_on text at within inside other =
    elim (cases_lt at (position_or_len is_end text)) as (λ _. at < position_or_len is_end text) [
      | inl less ↦ less
      | inr past ↦
          let same : at ≡ position_or_len is_end text = omega arith in
          absurd (true_isn't (is_end (get_or text at 0))
          (ap (λ k. is_end (get_or text k 0)) same ∙ passes_at_first is_end text 0 (omega (arith, same))) other)
    ]

pub ends_here : (text : List ℕ) (at : ℕ) → at ≤ position_or_len is_end text → is_end (get_or text at 0) ≡ true → at ≡ position_or_len is_end text
ends_here text at within end =
    elim (cases_lt at (position_or_len is_end text)) as (λ _. at ≡ position_or_len is_end text) [
      | inl less ↦ absurd (true_isn't (is_end (get_or text at 0)) end (fails_before_first is_end text at 0 less))
      | inr past ↦ omega arith
    ]

pub long : (text : List ℕ) → length (the_word text) ≡ position_or_len is_end text
long text = length-prefix_len (λ c. not (is_end c)) text

not_below : (a b : ℕ) → ¬ (a < b) → nat_lt a b ≡ false
not_below a b large = elim (cases_lt a b) as (λ _. nat_lt a b ≡ false) [
  | inl less ↦ absurd (large less)
  | inr past ↦ grind arith
]

refused : (a b : Bool) (number : ℕ) → None ≡ (if a && false && b then Some number else None)
refused true b number = refl
refused false b number = refl

-- one digit more
pub record Goes (radix : ℕ) (text : List ℕ) (value at digit : ℕ) : Type 0 where
  pub inside : at < length (the_word text)
  pub is : digit ≡ digit_value (get_or (the_word text) at 0)
  pub goes : digits_value_after radix value (drop at (the_word text)) ≡ digits_value_after radix (value * radix + digit) (drop (at + 1) (the_word text))
  pub digits : list_all (λ c. is_digit c radix) (drop at (the_word text)) ≡ list_all (λ c. is_digit c radix) (drop (at + 1) (the_word text))

pub goes : (radix : ℕ) (text : List ℕ) (value at digit : ℕ) → radix ≤ 16 → at ≤ position_or_len is_end text → at < length text →
    digit_value (get_or text at 0) < radix → digit ≡ digit_value (get_or text at 0) → Goes radix text value at digit
goes radix text value at digit most within there small is =
    let further : at < position_or_len is_end text = goes_on text at within there (digit_inside radix (get_or text at 0) most small) in
    let inside : at < length (the_word text) = omega (arith, long text) in
    let same : get_or (the_word text) at 0 ≡ get_or text at 0 = get_or-take (position_or_len is_end text) text at 0 further in
    let value_is : digit ≡ digit_value (get_or (the_word text) at 0) = is ∙ ap digit_value (sym same) in
    let next : drop at (the_word text) ≡ get_or (the_word text) at 0 ∷ drop (at + 1) (the_word text) = drop_more (the_word text) at 0 inside in
    let good : is_digit (get_or (the_word text) at 0) radix ≡ true = ap (λ c. is_digit c radix) same ∙ grind arith in
    record {
      inside = inside;
      is = value_is;
      goes = ap (digits_value_after radix value) next ∙ ap (λ d. digits_value_after radix (value * radix + d) (drop (at + 1) (the_word text))) (sym value_is);
      digits = ap (list_all (λ c. is_digit c radix)) next ∙ ap (λ b. b && list_all (λ c. is_digit c radix) (drop (at + 1) (the_word text))) good;
    }

-- a byte of the word that is no digit
pub no_digit : (radix : ℕ) (text : List ℕ) (at : ℕ) → at ≤ position_or_len is_end text → at < length text →
    is_end (get_or text at 0) ≡ false → ¬ (digit_value (get_or text at 0) < radix) → None ≡ number_in radix (the_word text)
unfolding number_in
no_digit radix text at within there other large =
    let further : at < position_or_len is_end text = goes_on text at within there other in
    let inside : at < length (the_word text) = omega (arith, long text) in
    let same : get_or (the_word text) at 0 ≡ get_or text at 0 = get_or-take (position_or_len is_end text) text at 0 further in
    let bad : is_digit (get_or (the_word text) at 0) radix ≡ false = ap (λ c. is_digit c radix) same ∙ not_below (digit_value (get_or text at 0)) radix large in
    let all : list_all (λ c. is_digit c radix) (the_word text) ≡ false = list_all_at (λ c. is_digit c radix) (the_word text) at 0 inside bad in
    rw all (refused (nat_lt 0 (length (the_word text))) (nat_lt (digits_value radix (the_word text)) (2 ^ 64)) _)

pub empty : (radix : ℕ) (text : List ℕ) → position_or_len is_end text ≡ 0 → None ≡ number_in radix (the_word text)
unfolding number_in
empty radix text none = rw none refl

pub bounded : (text : List ℕ) → position_or_len is_end text ≤ length text
bounded text = prefix_len-le-length (λ c. not (is_end c)) text

pub behind : (text : List ℕ) (at : ℕ) → at ≡ position_or_len is_end text → take (length text - at) (drop at text) ≡ drop (position_or_len is_end text) text
behind text at is = take_all (length text - at) (drop at text) (omega (arith, length-drop at text)) ∙ ap (λ n. drop n text) is

no_ends : (radix c : ℕ) → radix ≤ 16 → is_end c ≡ true → is_digit c radix ≡ false
no_ends radix c most end = not_below (digit_value c) radix (λ less. absurd (omega (arith, no_value c (small c end))))

-- a number has no end of a word in it
number_of_all : (radix : ℕ) (text : List ℕ) → radix ≤ 16 →
    number_in radix text ≡ (if nat_lt (position_or_len is_end text) (length text) then None else number_in radix (the_word text))
unfolding number_in
number_of_all radix text most =
    elim (cases_lt (position_or_len is_end text) (length text))
    as (λ _. number_in radix text ≡ (if nat_lt (position_or_len is_end text) (length text) then None else number_in radix (the_word text))) [
      | inl less ↦
          let past : nat_lt (position_or_len is_end text) (length text) ≡ true = grind arith in
          let end : is_digit (get_or text (position_or_len is_end text) 0) radix ≡ false =
          no_ends radix (get_or text (position_or_len is_end text) 0) most (passes_at_first is_end text 0 less) in
          let all : list_all (λ c. is_digit c radix) text ≡ false = list_all_at (λ c. is_digit c radix) text (position_or_len is_end text) 0 less end in
          rw (past, all) (sym (refused (nat_lt 0 (length text)) (nat_lt (digits_value radix text) (2 ^ 64)) _))
      | inr whole ↦
          let past : nat_lt (position_or_len is_end text) (length text) ≡ false = grind arith in
          rw past (ap (number_in radix) (sym (take_all (position_or_len is_end text) text whole)))
    ]

either_none : {A : Type 0} (b : Bool) (found : Option A) → None ≡ found → None ≡ (if b then None else found)
either_none true found is = refl
either_none false found is = is

pub refused_front : (radix : ℕ) (text : List ℕ) → radix ≤ 16 → None ≡ number_in radix (the_word text) → None ≡ number_in radix text
refused_front radix text most is = either_none _ _ is ∙ sym (number_of_all radix text most)

pub refused_rest : (radix : ℕ) (text : List ℕ) → radix ≤ 16 → ¬ (length (drop (position_or_len is_end text) text) ≡ 0) → None ≡ number_in radix text
refused_rest radix text most some =
    elim (cases_lt (position_or_len is_end text) (length text)) as (λ _. None ≡ number_in radix text) [
      | inl less ↦
          let past : nat_lt (position_or_len is_end text) (length text) ≡ true = grind arith in
          sym (number_of_all radix text most ∙ rw past refl)
      | inr whole ↦ absurd (some (omega (arith, length-drop (position_or_len is_end text) text)))
    ]

pub whole_word : (radix value : ℕ) (text : List ℕ) → radix ≤ 16 → length (drop (position_or_len is_end text) text) ≡ 0 →
    Some value ≡ number_in radix (the_word text) → Some value ≡ number_in radix text
whole_word radix value text most none is =
    let past : nat_lt (position_or_len is_end text) (length text) ≡ false = grind (arith, length-drop (position_or_len is_end text) text) in
    sym (number_of_all radix text most ∙ rw past (sym is))
