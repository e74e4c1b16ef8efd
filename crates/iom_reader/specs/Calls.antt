-- What one call of a reader or of a writer does to the bytes that are left, and to those that are held, where they are known.
use Rattle.std.specs.Prelude.{ℕ, ◌≡◌, ◌==◌, ◌<◌, ◌≤◌, List, length, take, Option, Some, None, if◌then◌else◌}
use Rattle.std.specs.Io.KnownBytes.{Appends, Consumes, Keeps, IsAtEnd}

-- a read gave the first `count` bytes of its piece, none only at the end or with no room; at an error it gave nothing
pub record Gives (old new : Option (List ℕ)) (piece : List ℕ) (count : ℕ) : Type 0 where
  pub bytes : Consumes old new (take count piece)
  pub end : count ≡ 0 → 0 < length piece → IsAtEnd new
  pub bound : count ≤ length piece

abbrev pub GivesBytes : Option (List ℕ) → Option (List ℕ) → List ℕ → Option ℕ → Type 0
GivesBytes old new piece None = Keeps old new
GivesBytes old new piece (Some count) = Gives old new piece count

-- a write took the first `count` bytes of its text; at an error it took nothing
pub record Takes (old new : Option (List ℕ)) (text : List ℕ) (count : ℕ) : Type 0 where
  pub bytes : Appends old new (take count text)
  pub bound : count ≤ length text

abbrev pub TakesBytes : Option (List ℕ) → Option (List ℕ) → List ℕ → Option ℕ → Type 0
TakesBytes old new text None = Keeps old new
TakesBytes old new text (Some count) = Takes old new text count

-- a write that took no byte failed too
abbrev pub some_bytes : Option ℕ → Option ℕ
some_bytes None = None
some_bytes (Some count) = if count == 0 then None else Some count
