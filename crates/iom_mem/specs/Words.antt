-- Bytes kept as words of 64 bits, the lowest byte of a word first.
use Rattle.std.specs.Prelude.{ℕ, ◌≡◌, ◌+◌, ◌*◌, ◌<◌, List, [], ◌∷◌, ◌++◌, get_or, take, drop}
use Rattle.iom_bits.specs.Bytes.{bytes_of_number, number_of_bytes}

-- the bytes of words, one word after the other
unfoldable pub bytes_of_words : List ℕ → List ℕ
bytes_of_words [] = []
bytes_of_words (word ∷ words) = bytes_of_number 8 word ++ bytes_of_words words

-- the first `count` of `out` are the bytes from place `at` on
abbrev pub StartsWith : List ℕ → List ℕ → ℕ → ℕ → Type 0
StartsWith out bytes at count = (k : ℕ) → k < count → get_or out k 0 ≡ get_or bytes (at + k) 0

-- the first `count` of `words` are the numbers of the bytes from place `at` on, eight bytes each
abbrev pub AreWords : List ℕ → List ℕ → ℕ → ℕ → Type 0
AreWords words bytes at count =
    (i : ℕ) → i < count → get_or words i 0 ≡ number_of_bytes (take 8 (drop (at + 8 * i) bytes))
