-- Physical memory: a base address and a list of bytes.
use Rattle.std.specs.Prelude.{ℕ, zero, suc, ◌≡◌, ◌+◌, ◌-◌, ◌<◌, ◌≤◌, List, [], ◌∷◌, ◌++◌, length, take, drop, Option, Some, None, nat_le, slice_get, if◌then◌else◌}
use Rattle.std.specs.Option.{option_map}
use Rattle.iom_bits.specs.Bytes.{number_of_bytes}

pub record Memory : Type 0 where
  pub base : ℕ
  pub bytes : List ℕ

-- how many bytes there are
abbrev pub size_of : Memory → ℕ
size_of memory = length memory.bytes

-- the byte at a physical address; None: the address is outside
abbrev pub byte : Memory → ℕ → Option ℕ
byte memory addr =
    if nat_le memory.base addr then slice_get memory.bytes (addr - memory.base) else None

-- a byte, or a word, before others, where they are all there
abbrev pub before : Option ℕ → Option (List ℕ) → Option (List ℕ)
before (Some first) (Some rest) = Some (first ∷ rest)
before (Some first) None = None
before None rest = None

-- `count` bytes from a physical address on; None: one of them is outside
unfoldable pub bytes_at : Memory → ℕ → ℕ → Option (List ℕ)
bytes_at memory addr zero = Some []
bytes_at memory addr (suc count) = before (byte memory addr) (bytes_at memory (addr + 1) count)

-- the number of the eight bytes from a physical address on, the lowest byte first
abbrev pub word : Memory → ℕ → Option ℕ
word memory addr = option_map number_of_bytes (bytes_at memory addr 8)

-- `count` words one after the other; None: a byte of them is outside
abbrev pub words_at : Memory → ℕ → ℕ → Option (List ℕ)
words_at memory addr zero = Some []
words_at memory addr (suc count) = before (word memory addr) (words_at memory (addr + 8) count)

-- the memory with `bytes` in the place of those from a physical address on
abbrev pub put : Memory → ℕ → List ℕ → Memory
put memory addr bytes = record memory {
  bytes =
      take (addr - memory.base) memory.bytes
      ++ (bytes ++ drop (addr - memory.base + length bytes) memory.bytes);
}

-- `new` has `bytes` from `addr` on and is `old` at every other address
pub record ReplacesBytes (old : Memory) (addr : ℕ) (bytes : List ℕ) (new : Memory) : Type 0 where
  pub base : new.base ≡ old.base
  pub size : size_of new ≡ size_of old
  pub inside : (i : ℕ) → i < length bytes → byte new (addr + i) ≡ slice_get bytes i
  pub below : (a : ℕ) → a < addr → byte new a ≡ byte old a
  pub above : (a : ℕ) → addr + length bytes ≤ a → byte new a ≡ byte old a
