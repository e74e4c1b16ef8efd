-- Bytes as words of eight, the lowest byte first.
use Rattle.std.specs.Prelude.{ℕ, zero, suc, ◌/◌, List, [], ◌∷◌, length, take, drop}
use Rattle.iom_bits.specs.Bytes.{number_of_bytes}
use Rattle.iom_mem.specs.Memory.{Memory}

-- the first `count` words of bytes
unfoldable pub words_in : ℕ → List ℕ → List ℕ
words_in zero bytes = []
words_in (suc count) bytes = number_of_bytes (take 8 bytes) ∷ words_in count (drop 8 bytes)

-- how many words bytes have, and these
abbrev pub words_of_bytes : List ℕ → List ℕ
words_of_bytes bytes = length bytes / 8 ∷ words_in (length bytes / 8) bytes

-- those of a memory, behind its base
abbrev pub memory_words : Memory → List ℕ
memory_words memory = memory.base ∷ words_of_bytes memory.bytes
