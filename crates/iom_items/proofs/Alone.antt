-- A word read alone.
use Rattle.std.proofs.Common.{◌≡◌, ℕ, [], ◌∷◌, Option, Some, None, refl}
use Rattle.std.specs.Option.{option_map}
use Rattle.iom_mem.specs.Memory.{before}

-- it is one of one
pub one_word : (found : Option ℕ) → option_map (λ word. word ∷ []) found ≡ before found (Some [])
one_word (Some word) = refl
one_word None = refl
