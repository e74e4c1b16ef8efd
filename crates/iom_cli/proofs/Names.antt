-- The words of a script's first line, and its comment.
use Rattle.std.proofs.Common.{◌≡◌, ◌==◌, ◌≤◌, ◌++◌, ◌-◌, ℕ, List, [], ◌∷◌, Bool, false, true, not, None, Some, length, take, drop, refl, sym, subst, ap, ◌∙◌, arith}
use Rattle.std.specs.Prelude.{bytes_eq, codes, nat_le, unwrap_or}
use Rattle.std.specs.List.{position}
use Rattle.std.proofs.lemmas.List.{drop-append-le, take-append-drop, take_rest}
use Rattle.iom_text.specs.Words.{words_of}
use Rattle.iom_cli.specs.Naming.{behind_first, first_end, first_line, image_in, image_by, without_image}

is_by_words : (line word rest file more : List ℕ) → length line ≤ 512 → words_of line ≡ word ∷ words_of rest →
    words_of rest ≡ file ∷ words_of more → image_by line ≡ image_in (word ∷ file ∷ words_of more)
unfolding image_by
is_by_words line word rest file more short first second =
    let le : nat_le (length line) 512 ≡ true = grind arith in
    rw (le, first, second) refl

not_so : (is : Bool) → true ≡ not is → is ≡ false
not_so true e = absurd (cc e)
not_so false e = refl

other_word : (word file spelled : List ℕ) (words : List (List ℕ)) → spelled ≡ codes "image" → true ≡ not (bytes_eq word spelled) →
    None ≡ image_in (word ∷ file ∷ words)
other_word word file spelled [] is other =
    let no : bytes_eq word (codes "image") ≡ false = subst (λ l. bytes_eq word l ≡ false) is (not_so (bytes_eq word spelled) other) in
    rw no refl
other_word word file spelled (next ∷ words) is other = refl

more_words : (word file : List ℕ) (words : List (List ℕ)) → false ≡ (length words == 0) → None ≡ image_in (word ∷ file ∷ words)
more_words word file [] some = absurd (cc some)
more_words word file (next ∷ words) some = refl

pub other_line : (line word rest file more spelled : List ℕ) → length line ≤ 512 → words_of line ≡ word ∷ words_of rest →
    words_of rest ≡ file ∷ words_of more → spelled ≡ codes "image" → true ≡ not (bytes_eq word spelled) → None ≡ image_by line
other_line line word rest file more spelled short first second is other =
    other_word word file spelled (words_of more) is other ∙ sym (is_by_words line word rest file more short first second)

pub long_line : (line word rest file more : List ℕ) → length line ≤ 512 → words_of line ≡ word ∷ words_of rest →
    words_of rest ≡ file ∷ words_of more → false ≡ (length (words_of more) == 0) → None ≡ image_by line
long_line line word rest file more short first second some =
    more_words word file (words_of more) some ∙ sym (is_by_words line word rest file more short first second)

from_first : (script : List ℕ) (at : ℕ) → at ≤ length (first_line script) → Some at ≡ position (λ c. c == 35) (first_line script) →
    drop at script ≡ without_image script
unfolding without_image
from_first script at inside is =
    ap (drop at) (sym (take-append-drop (first_end script) script))
    ∙ drop-append-le at (first_line script) (behind_first script) inside
    ∙ ap (λ found. drop (unwrap_or found (length (first_line script))) (first_line script) ++ behind_first script) is

pub from_comment : (script : List ℕ) (end at : ℕ) → end ≡ first_end script → Some at ≡ position (λ c. c == 35) (take end script) →
    at ≤ length (take end script) → take (length script - at) (drop at script) ≡ without_image script
from_comment script end at place is inside =
    rw take_rest (from_first script at (subst (λ n. at ≤ length (take n script)) place inside)
    (subst (λ n. Some at ≡ position (λ c. c == 35) (take n script)) place is))
