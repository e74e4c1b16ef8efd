-- The last operand of a line.
use Rattle.std.specs.Prelude.{ℕ, ◌≡◌, List, [], ◌∷◌, Some}
use Rattle.iom_tool.specs.Words.{bytes_of}

-- one word of data and no more
abbrev pub IsData : List (List ℕ) → List ℕ → Type 0
IsData [] bytes = ⊥
IsData (word ∷ []) bytes = bytes_of word ≡ Some bytes
IsData (word ∷ more ∷ words) bytes = ⊥
