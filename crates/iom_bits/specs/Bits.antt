-- Bits of a word. A word is a number; its bit 0 is the lowest.
use Rattle.std.specs.Prelude.{ℕ, ◌≡◌, ◌+◌, ◌*◌, ◌/◌, ◌%◌, ◌^◌, ◌<◌, ◌≤◌, ◌==◌, Bool, if◌then◌else◌}
use Rattle.std.specs.Int.{bit_at}

-- whether a bit of a word is 1
unfoldable pub has_bit : ℕ → ℕ → Bool
has_bit word bit = bit_at word bit == 1

-- a bit as a number: 1 if it is set
abbrev pub flag : Bool → ℕ
flag set = if set then 1 else 0

-- the number of the `width` bits from bit `low` on
abbrev pub field_of : ℕ → ℕ → ℕ → ℕ
field_of word low width = word / 2 ^ low % 2 ^ width

-- `value` is those bits of `word`, bit by bit
pub record IsField (word low width value : ℕ) : Type 0 where
  pub fits : value < 2 ^ width
  pub bits : (i : ℕ) → i < width → bit_at value i ≡ bit_at word (low + i)

-- the word with those bits replaced: the bits above them, `value`, the bits below them
abbrev pub with_field_of : ℕ → ℕ → ℕ → ℕ → ℕ
with_field_of word low width value =
    (word / 2 ^ (low + width) * 2 ^ width + value) * 2 ^ low + word % 2 ^ low

-- the word with one bit set
abbrev pub with_bit : ℕ → ℕ → ℕ
with_bit word bit = with_field_of word bit 1 1

-- `new` has `value` in those bits and is `old` in all others
pub record ReplacesField (old low width value new : ℕ) : Type 0 where
  pub below : (i : ℕ) → i < low → bit_at new i ≡ bit_at old i
  pub inside : (i : ℕ) → i < width → bit_at new (low + i) ≡ bit_at value i
  pub above : (i : ℕ) → low + width ≤ i → bit_at new i ≡ bit_at old i
