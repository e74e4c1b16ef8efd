-- What the operands of a line say.
use Rattle.std.specs.Prelude.{ℕ, ◌++◌, List, [], ◌∷◌}

-- numbers in their order, the bytes of DATA, and the words of an item
pub record Values : Type 0 where
  pub numbers : List ℕ
  pub bytes : List ℕ
  pub items : List ℕ

abbrev pub nothing : Values
nothing = record { numbers = []; bytes = []; items = [] }

abbrev pub with_number : Values → ℕ → Values
with_number said n = record said { numbers = said.numbers ++ n ∷ [] }

abbrev pub numbers_only : List ℕ → Values
numbers_only ns = record { numbers = ns; bytes = []; items = [] }
