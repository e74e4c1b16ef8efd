-- Memory as words that stand from a base on, and which of them may be lent.
use Rattle.std.specs.Prelude.{ℕ, ◌+◌, ◌^◌, ◌&&◌, Bool, List, nat_le, nat_lt}
use Rattle.iom_mem.specs.Memory.{Memory}
use Rattle.iom_mem.specs.Sizes.{is_paged}
use Rattle.iom_mem.specs.Words.{bytes_of_words}

-- the memory whose bytes are those of these words, the first of them at `base`
abbrev pub memory_of : ℕ → List ℕ → Memory
memory_of base words = record { base = base; bytes = bytes_of_words words }

-- a base and a size in bytes of whole pages, at least one, that end at or below address 2^56
abbrev pub is_lendable : ℕ → ℕ → Bool
is_lendable base size = is_paged base && is_paged size && nat_lt 0 size && nat_le (base + size) (2 ^ 56)
