-- How texts of any bytes are told.
use Rattle.std.specs.Prelude.{ℕ, ◌==◌, ◌++◌, ◌&&◌, ◌||◌, nat_le, List, [], ◌∷◌, codes, if◌then◌else◌}
use Rattle.std.specs.List.{flat_map}
use Rattle.hex.specs.Hex.{encode_lower}

-- a byte as it is told: itself where it is printable, and else escaped
unfoldable pub shown : ℕ → List ℕ
shown c =
    if c == 9 then codes "\\t"
    else if c == 10 then codes "\\n"
    else if c == 13 then codes "\\r"
    else if c == 34 || (c == 39 || c == 92) then 92 ∷ c ∷ []
    else if nat_le 32 c && nat_le c 126 then c ∷ []
    else codes "\\x" ++ encode_lower (c ∷ [])

abbrev pub escaped : List ℕ → List ℕ
escaped text = flat_map shown text
