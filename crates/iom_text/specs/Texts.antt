-- The texts of numbers.
use Rattle.std.specs.Prelude.{ℕ, ◌==◌, ◌++◌, false, List, codes, map, if◌then◌else◌}
use Rattle.std.specs.Fmt.{digit_glyph}
use Rattle.std.specs.Int.Digits.{digits_of}

-- the digits of a number without leading zeros, letters in lower case
abbrev pub digits_in : ℕ → ℕ → List ℕ
digits_in radix number = map (digit_glyph false) (digits_of radix number)

abbrev pub numeral : ℕ → ℕ → List ℕ
numeral radix number = if number == 0 then codes "0" else digits_in radix number

abbrev pub hexadecimal : ℕ → List ℕ
hexadecimal number = codes "0x" ++ numeral 16 number
