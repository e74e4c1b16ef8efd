-- What a word of data says.
use Rattle.std.specs.Prelude.{ℕ, ◌&&◌, nat_le, List, length, Option, None, if◌then◌else◌}
use Rattle.std.specs.Result.{result_ok}
use Rattle.hex.specs.Hex.{decode_of}

-- 2 to 128 hex digits, two a byte
unfoldable pub bytes_of : List ℕ → Option (List ℕ)
bytes_of word = if nat_le 2 (length word) && nat_le (length word) 128 then result_ok (decode_of word) else None
