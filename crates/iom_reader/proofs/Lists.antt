-- Lists of lines, and what is kept of a line.
use Rattle.std.proofs.Common.{◌≡◌, ◌++◌, ℕ, List, [], ◌∷◌, take, length, refl, arith}
use Rattle.std.proofs.lemmas.List.{take_all, length-take}

-- the last of two lists, and what stands before it
pub last_split : (xs ys : List (List ℕ)) (x y : List ℕ) → xs ++ x ∷ [] ≡ ys ++ y ∷ [] → (xs ≡ ys) × (x ≡ y)
last_split [] [] x y is = (refl, cc is)
last_split [] (b ∷ []) x y is = absurd (cc is)
last_split [] (b ∷ c ∷ ys) x y is = absurd (cc is)
last_split (a ∷ []) [] x y is = absurd (cc is)
last_split (a ∷ b ∷ xs) [] x y is = absurd (cc is)
last_split (a ∷ xs) (b ∷ ys) x y is =
    let rest : xs ++ x ∷ [] ≡ ys ++ y ∷ [] = cc is in
    let both = last_split xs ys x y rest in
    let first : a ≡ b = cc is in
    (rw (first, both.0) refl, both.1)

-- the first 513 bytes of the first 513 bytes
pub take_513 : (line : List ℕ) → take 513 (take 513 line) ≡ take 513 line
take_513 line = take_all 513 (take 513 line) (omega (arith, length-take 513 line))
