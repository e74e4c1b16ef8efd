-- The words of a statement are numbers of 64 bits.
use Rattle.std.proofs.Common.{◌≡◌, ◌+◌, ◌*◌, ◌<◌, ◌^◌, ℕ, List, [], ◌∷◌, codes, bytes_eq, length, take, drop, nat_lt, Bool, true, Option, Some, None, sym, subst, arith}
use Rattle.std.specs.Prelude.{IfSome}
use Rattle.std.specs.List.{list_all}
use Rattle.std.specs.Str.Parse.{digits_value}
use Rattle.std.proofs.lemmas.Bool.{cond_both, and_parts, ltb-true}
use Rattle.iom_text.specs.Words.{number, number_in}
use Rattle.iom_mem.specs.Words.{bytes_of_words}
use Rattle.iom_items.specs.Operands.{◌>>=◌}
use Rattle.iom_items.specs.Forms.{each_number, numbers, stated_from, where_so}
use Rattle.iom_items.specs.Layouts.{Field}
use Rattle.iom_items.proofs.Saying.{some_is}
use Rattle.iom_items.proofs.Stated.{is_within, more_of, word_fits}

abbrev pub AreWords : List ℕ → Type 0
AreWords [] = Unit {0}
AreWords (word ∷ words) = (word < 2 ^ 64) × AreWords words

-- what follows a value that has a property
pub and_then : {A B : Type 0} (P : A → Type 0) (Q : B → Type 0) (found : Option A) (f : A → Option B) → IfSome found P →
    ((x : A) → P x → IfSome (f x) Q) → IfSome (found >>= f) Q
and_then P Q None f is more = tt
and_then P Q (Some x) f is more = more x is

pub where_ : {A : Type 0} (Q : A → Type 0) (b : Bool) (found : Option A) → IfSome found Q → IfSome (where_so b found) Q
where_ Q b found is = cond_both b found None (λ found. IfSome found Q) (λ _. is) (λ _. tt)

-- words that operands give
pub stated_fine : (fields : List Field) (operands : List (List ℕ)) (at : ℕ) (bases words : List ℕ) → list_all is_within fields ≡ true → AreWords bases →
    stated_from fields operands at bases ≡ Some words → AreWords words
unfolding stated_from
stated_fine fields operands at [] words within fine is = subst AreWords (some_is [] words is) tt
stated_fine fields operands at (base ∷ bases) words within fine is =
    let more = more_of fields operands at base bases words is in
    subst AreWords (sym more.parts)
    (word_fits fields operands at base more.first within fine.0 more.own, stated_fine fields operands (at + 1) bases more.others within fine.1 more.rest)

number_in_fine : (radix : ℕ) (word : List ℕ) → IfSome (number_in radix word) (λ n. n < 2 ^ 64)
unfolding number_in
number_in_fine radix word =
    cond_both _ (Some (digits_value radix word)) None (λ found. IfSome found (λ n. n < 2 ^ 64))
    (λ all. ltb-true (digits_value radix word) (2 ^ 64) (and_parts _ (nat_lt (digits_value radix word) (2 ^ 64)) all).1) (λ _. tt)

pub number_fine : (word : List ℕ) → IfSome (number word) (λ n. n < 2 ^ 64)
unfolding number
number_fine word =
    cond_both (bytes_eq (take 2 word) (codes "0x")) (number_in 16 (drop 2 word)) (number_in 10 word) (λ found. IfSome found (λ n. n < 2 ^ 64))
    (λ _. number_in_fine 16 (drop 2 word)) (λ _. number_in_fine 10 word)

each_fine : (words : List (List ℕ)) → IfSome (each_number words) AreWords
unfolding each_number
each_fine [] = tt
each_fine (word ∷ words) =
    and_then (λ n. n < 2 ^ 64) AreWords (number word) _ (number_fine word) (λ n lt. and_then AreWords AreWords (each_number words) _ (each_fine words) (λ others fine. (lt, fine)))

pub numbers_fine : (operands : List (List ℕ)) → IfSome (numbers operands) AreWords
unfolding numbers
numbers_fine operands = where_ AreWords _ (each_number operands) (each_fine operands)

pub length_of_words : (words : List ℕ) → length (bytes_of_words words) ≡ 8 * length words
unfolding bytes_of_words
length_of_words [] = omega arith
length_of_words (word ∷ words) = let others = length_of_words words in omega (arith, others)
