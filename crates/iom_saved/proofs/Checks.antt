-- Another word in one place gives another check word.
use Rattle.std.proofs.Common.{◌≡◌, ◌<◌, ◌+◌, ◌*◌, ◌%◌, ◌^◌, ◌∙◌, ℕ, List, [], ◌∷◌, sym, ap, arith}
use Rattle.std.specs.Prelude.{fold}
use Rattle.std.proofs.lemmas.List.Sums.{fold-append}
use Rattle.iom_saved.specs.Check.{mixed}
use Rattle.iom_saved.specs.Laws.{OneCheck}

-- the product's other factor, by the inverse of the odd number
factor : (sum : ℕ) → sum < 2 ^ 64 → sum * 11400714819323198485 % 2 ^ 64 * 17428512612931826493 % 2 ^ 64 ≡ sum
factor sum below = omega (arith, below)

mixed_sum : (a b word : ℕ) → a < 2 ^ 64 → b < 2 ^ 64 → mixed a word ≡ mixed b word → a ≡ b
mixed_sum a b word first second same =
    let sums : (a + word) % 2 ^ 64 ≡ (b + word) % 2 ^ 64 =
    sym (factor ((a + word) % 2 ^ 64) (omega arith)) ∙ ap (λ (n : ℕ). n * 17428512612931826493 % 2 ^ 64) same ∙ factor ((b + word) % 2 ^ 64) (omega arith) in
    omega (arith, first, second, sums)

mixed_word : (sum a b : ℕ) → a < 2 ^ 64 → b < 2 ^ 64 → mixed sum a ≡ mixed sum b → a ≡ b
mixed_word sum a b first second same =
    let sums : (sum + a) % 2 ^ 64 ≡ (sum + b) % 2 ^ 64 =
    sym (factor ((sum + a) % 2 ^ 64) (omega arith)) ∙ ap (λ (n : ℕ). n * 17428512612931826493 % 2 ^ 64) same ∙ factor ((sum + b) % 2 ^ 64) (omega arith) in
    omega (arith, first, second, sums)

mixed_below : (sum word : ℕ) → mixed sum word < 2 ^ 64
mixed_below sum word = omega arith

folded : (words : List ℕ) (a b : ℕ) → a < 2 ^ 64 → b < 2 ^ 64 → fold mixed a words ≡ fold mixed b words → a ≡ b
folded [] a b first second same = same
folded (word ∷ words) a b first second same =
    mixed_sum a b word first second (folded words (mixed a word) (mixed b word) (mixed_below a word) (mixed_below b word) same)

pub one_check : OneCheck
one_check front back a b first second same =
    let sum : ℕ = fold mixed 0 front in
    let ends : fold mixed (mixed sum a) back ≡ fold mixed (mixed sum b) back =
    sym (fold-append mixed 0 front (a ∷ back)) ∙ same ∙ fold-append mixed 0 front (b ∷ back) in
    mixed_word sum a b first second (folded back (mixed sum a) (mixed sum b) (mixed_below sum a) (mixed_below sum b) ends)
