-- Which bytes of memory may be others.
use Rattle.std.specs.Prelude.{ℕ, ◌≡◌, ◌+◌, ◌<◌, ◌≤◌, ◌⊎◌, List, [], ◌∷◌}
use Rattle.iom_mem.specs.Memory.{Memory, byte, size_of}

-- the bytes from a physical address on
pub record Span : Type 0 where
  pub addr : ℕ
  pub count : ℕ

-- an address that is in none of these
abbrev pub IsOutside : List Span → ℕ → Type 0
IsOutside [] a = Unit {0}
IsOutside (span ∷ spans) a = ((a < span.addr) ⊎ (span.addr + span.count ≤ a)) × IsOutside spans a

-- no byte but those of these spans differs
pub record ChangesOnly (spans : List Span) (old new : Memory) : Type 0 where
  pub base : new.base ≡ old.base
  pub size : size_of new ≡ size_of old
  pub others : (a : ℕ) → IsOutside spans a → byte new a ≡ byte old a
