-- The numbers that an operand may be, and how one that it may not be is told.
use Rattle.std.specs.Prelude.{ℕ, ◌^◌, ◌++◌, ◌==◌, ◌&&◌, Bool, true, false, nat_lt, nat_le, List, length, take, drop, codes, bytes_eq, Option, Some, None, if◌then◌else◌}
use Rattle.std.specs.List.{list_all}
use Rattle.std.specs.Char.{digit_value}
use Rattle.iom_text.specs.Texts.{numeral}
use Rattle.iom_slips.specs.declared.ranges.Range.{Range}
use Rattle.iom_slips.specs.declared.ranges.Range.TheVariants as range

-- whether a number, which is below 2^64, is one of these
unfoldable pub is_in : Range → ℕ → Bool
is_in range.Any n = true
is_in (range.Bits width) n = nat_lt n (2 ^ width)
is_in range.Count n = nat_le 1 n && nat_le n 64
is_in range.Limit n = nat_le 1 n && nat_le n (2 ^ 20)
is_in range.Extent n = nat_le 1 n && nat_le n (2 ^ 24)

-- the same of what a word writes
abbrev pub is_one_in : Range → Option ℕ → Bool
is_one_in range None = false
is_one_in range (Some n) = is_in range n

-- what is said of a number that is none of these
unfoldable pub beyond : ℕ → List ℕ
beyond width = if width == 1 then codes " isn't 0 or 1" else codes " is 2^" ++ numeral 10 width ++ codes " or more"

unfoldable pub outside : Range → List ℕ
outside range.Any = codes " is 2^64 or more"
outside (range.Bits width) = beyond width
outside range.Count = codes " isn't 1 to 64"
outside range.Limit = codes " isn't 1 to 2^20"
outside range.Extent = codes " isn't 1 to 2^24"

-- one digit or more
abbrev pub are_digits : ℕ → List ℕ → Bool
are_digits radix word = nat_lt 0 (length word) && list_all (λ c. nat_lt (digit_value c) radix) word

-- decimal digits, or hex digits after `0x`, of a number of any size
unfoldable pub is_numeral : List ℕ → Bool
is_numeral word = if bytes_eq (take 2 word) (codes "0x") then are_digits 16 (drop 2 word) else are_digits 10 word

-- what is said of a word that writes none of these numbers
abbrev pub unlike_number : Range → List ℕ → List ℕ
unlike_number range word = if is_numeral word then outside range else codes " isn't a number"
