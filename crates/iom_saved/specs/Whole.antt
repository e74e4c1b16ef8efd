-- Bytes in words of eight.
use Rattle.std.specs.Prelude.{ℕ, ◌≡◌, ◌%◌, ◌<◌, List, [], ◌∷◌, length, get_or, Option, Some, None}
use Rattle.iom_blk.specs.Device.{Device}

-- bytes, as many as some words have
pub record IsWhole (bytes : List ℕ) : Type 0 where
  pub whole : length bytes % 8 ≡ 0
  pub small : (i : ℕ) → get_or bytes i 0 < 256

-- the disk of a device that there may be is whole
abbrev pub IsWholeIf : Option (ℕ × Device) → Type 0
IsWholeIf None = Unit {0}
IsWholeIf (Some own) = IsWhole own.1.disk

-- the disk of each device is
abbrev pub EachWhole : List (ℕ × Device) → Type 0
EachWhole [] = Unit {0}
EachWhole (own ∷ more) = IsWhole own.1.disk × EachWhole more
