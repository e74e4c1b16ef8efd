-- Bytes, one by one.
use Rattle.std.proofs.Common.{◌≡◌, ℕ, List, [], ◌∷◌, length, get_or, refl, arith}

pub four : (xs : List ℕ) → length xs ≡ 4 → xs ≡ get_or xs 0 0 ∷ get_or xs 1 0 ∷ get_or xs 2 0 ∷ get_or xs 3 0 ∷ []
four [] e = absurd (omega (arith, e))
four (a ∷ []) e = absurd (omega (arith, e))
four (a ∷ b ∷ []) e = absurd (omega (arith, e))
four (a ∷ b ∷ c ∷ []) e = absurd (omega (arith, e))
four (a ∷ b ∷ c ∷ d ∷ []) e = refl
four (a ∷ b ∷ c ∷ d ∷ x ∷ xs) e = absurd (omega (arith, e))

pub eight : (xs : List ℕ) → length xs ≡ 8 →
    xs ≡ get_or xs 0 0 ∷ get_or xs 1 0 ∷ get_or xs 2 0 ∷ get_or xs 3 0 ∷ get_or xs 4 0 ∷ get_or xs 5 0 ∷ get_or xs 6 0 ∷ get_or xs 7 0 ∷ []
eight [] e = absurd (omega (arith, e))
eight (a ∷ []) e = absurd (omega (arith, e))
eight (a ∷ b ∷ []) e = absurd (omega (arith, e))
eight (a ∷ b ∷ c ∷ []) e = absurd (omega (arith, e))
eight (a ∷ b ∷ c ∷ d ∷ []) e = absurd (omega (arith, e))
eight (a ∷ b ∷ c ∷ d ∷ f ∷ []) e = absurd (omega (arith, e))
eight (a ∷ b ∷ c ∷ d ∷ f ∷ g ∷ []) e = absurd (omega (arith, e))
eight (a ∷ b ∷ c ∷ d ∷ f ∷ g ∷ h ∷ []) e = absurd (omega (arith, e))
eight (a ∷ b ∷ c ∷ d ∷ f ∷ g ∷ h ∷ i ∷ []) e = refl
eight (a ∷ b ∷ c ∷ d ∷ f ∷ g ∷ h ∷ i ∷ x ∷ xs) e = absurd (omega (arith, e))
