-- The entries that name physical memory: how many, and an oldest.
use Rattle.std.specs.Prelude.{ℕ, ◌≡◌, ◌≤◌, ◌^◌, ◌-◌, List, [], filter, length, min, Option, Some, None}
use Rattle.iom_choices.specs.Systems.{IsAmong}
use Rattle.iom_every.specs.Frames.{names_memory}
use Rattle.iom_held.specs.declared.kept.Kept.{Kept}
use Rattle.iom_held.specs.declared.naming.Naming.{Naming}

-- those that name a byte of the `len` ones from `addr` on
abbrev pub naming : ℕ → ℕ → List Kept → List Kept
naming addr len held = filter (λ kept. names_memory addr len kept.entry) held

-- one of them, and none has a smaller number
pub record IsOldest (all : List Kept) (kept : Kept) : Type 0 where
  pub among : IsAmong all kept
  pub oldest : (other : Kept) → IsAmong all other → kept.number ≤ other.number

-- they are told by their count, up to 2^64 - 1, and an oldest; None: there are none
abbrev pub AreTold : List Kept → Option Naming → Type 0
AreTold all None = all ≡ []
AreTold all (Some found) = (found.count ≡ min (length all) (2 ^ 64 - 1)) × IsOldest all found.first
