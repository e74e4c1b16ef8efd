-- Lists that are gathered from those of several things.
use Rattle.std.specs.Prelude.{◌≡◌, ◌++◌, List, [], ◌∷◌}

-- such a list was added at the end
pub record Adds {C : Type 0} (P : List C → Type 0) (before after : List C) : Type 0 where
  pub added : List C
  pub is : after ≡ before ++ added
  pub holds : P added

-- such lists of these, one after the other
abbrev pub Gathered : {C : Type 0} → (C → List C → Type 0) → List C → List C → Type 0
Gathered follows [] all = all ≡ []
Gathered {C} follows (one ∷ ones) all = (first : List C) × (rest : List C) × (all ≡ first ++ rest) × follows one first × Gathered follows ones rest
