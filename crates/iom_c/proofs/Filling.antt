-- An array of the caller that is filled from the front.
use Rattle.std.proofs.Common.{◌≡◌, ◌++◌, ◌<◌, ℕ, zero, suc, List, [], ◌∷◌, get_or, length, map, take, drop, slice_set, ap, arith}

-- the next place
pub fill_next : {X T : Type 0} (f : X → T) (xs : List X) (ys : List T) (i : ℕ) (x : X) → x ≡ get_or xs i x → i < length xs → i < length ys →
    slice_set (take i (map f xs) ++ drop i ys) i (f x) ≡ take (suc i) (map f xs) ++ drop (suc i) ys
fill_next f [] ys i x is some inside = absurd (omega (arith, some))
fill_next f (a ∷ xs) [] i x is some inside = absurd (omega (arith, inside))
fill_next {X = X} f (a ∷ xs) (b ∷ ys) zero x is some inside = ap (λ (z : X). f z ∷ ys) is
fill_next {T = T} f (a ∷ xs) (b ∷ ys) (suc i) x is some inside =
    ap (λ (rest : List T). f a ∷ rest) (fill_next f xs ys i x is (omega (arith, some)) (omega (arith, inside)))
