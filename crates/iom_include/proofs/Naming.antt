-- The words of a line.
use Rattle.std.proofs.Common.{◌≡◌, ◌==◌, ◌≤◌, ℕ, List, [], ◌∷◌, Bool, false, true, not, None, length, refl, subst, arith}
use Rattle.std.specs.Prelude.{bytes_eq, codes, nat_le}
use Rattle.iom_text.specs.Words.{words_of}
use Rattle.iom_include.specs.Including.{file_in, file_of}

pub is_by_words : (line word rest file more : List ℕ) → length line ≤ 512 → words_of line ≡ word ∷ words_of rest →
    words_of rest ≡ file ∷ words_of more → file_of line ≡ file_in (word ∷ file ∷ words_of more)
unfolding file_of
is_by_words line word rest file more short first second =
    let le : nat_le (length line) 512 ≡ true = grind arith in
    rw (le, first, second) refl

not_so : (is : Bool) → true ≡ not is → is ≡ false
not_so true e = absurd (cc e)
not_so false e = refl

pub other_word : (word file spelled : List ℕ) (words : List (List ℕ)) → spelled ≡ codes "include" → true ≡ not (bytes_eq word spelled) →
    None ≡ file_in (word ∷ file ∷ words)
other_word word file spelled [] is other =
    let no : bytes_eq word (codes "include") ≡ false = subst (λ l. bytes_eq word l ≡ false) is (not_so (bytes_eq word spelled) other) in
    rw no refl
other_word word file spelled (next ∷ words) is other = refl

pub more_words : (word file : List ℕ) (words : List (List ℕ)) → false ≡ (length words == 0) → None ≡ file_in (word ∷ file ∷ words)
more_words word file [] some = absurd (cc some)
more_words word file (next ∷ words) some = refl
