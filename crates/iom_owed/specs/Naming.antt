-- The entries that may be held and name physical memory, which some IOMMU may so still read or write: RISC-V IOMMU Architecture 1.0, "Caching
-- in-memory data structures".
use Rattle.std.specs.Prelude.{ℕ, ◌≡◌, ◌≤◌, ◌-◌, ◌^◌, true, false, List, length, min, Option, Some, None}
use Rattle.iom_choices.specs.Systems.{IsAmong}
use Rattle.iom_core.specs.State.{State}
use Rattle.iom_core.specs.declared.step.Step.{Step}
use Rattle.iom_every.specs.declared.entry.Entry.{Entry}
use Rattle.iom_core.specs.declared.access.Request.{Request}
use Rattle.iom_every.specs.Every.{MayAhead, is_listed}
use Rattle.iom_every.specs.Frames.{names_memory}
use Rattle.iom_held.specs.Naming.{naming}
use Rattle.iom_held.specs.declared.kept.Kept.{Kept}
use Rattle.iom_held.specs.declared.naming.Naming.{Naming}
use Rattle.iom_owed.specs.Holdings.{HoldingsView}

-- So many entries of these name a byte of the `len` ones from `addr` on, up to 2^64 - 1. The first may be held after these steps and is one of
-- them, and none has a smaller number.
pub record AreSome (ahead : List Request) (held : HoldingsView) (start : State) (steps : List Step) (addr len : ℕ) (found : Naming) : Type 0 where
  pub count : found.count ≡ min (length (naming addr len held.entries)) (2 ^ 64 - 1)
  pub may : MayAhead (is_listed ahead) start steps found.first.entry
  pub names : names_memory addr len found.first.entry ≡ true
  pub among : IsAmong held.entries found.first
  pub oldest : (other : Kept) → IsAmong held.entries other → names_memory addr len other.entry ≡ true → found.first.number ≤ other.number

-- None: no entry that may be held after these steps names such a byte
abbrev pub AreNaming : List Request → HoldingsView → State → List Step → ℕ → ℕ → Option Naming → Type 0
AreNaming ahead held start steps addr len None = (entry : Entry) → MayAhead (is_listed ahead) start steps entry → names_memory addr len entry ≡ false
AreNaming ahead held start steps addr len (Some found) = AreSome ahead held start steps addr len found
