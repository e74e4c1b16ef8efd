-- Which memories there may be, why another is refused, and which bytes are among others.
use Rattle.std.specs.Prelude.{ℕ, ◌≡◌, ◌+◌, ◌%◌, ◌^◌, ◌<◌, ◌≤◌, ◌==◌, ◌&&◌, Bool, Option, Some, None, nat_le, nat_lt, replicate, if◌then◌else◌}
use Rattle.iom_mem.specs.Memory.{Memory, size_of}
use Rattle.iom_mem.specs.declared.MemFault.{MemFault}
use Rattle.iom_mem.specs.declared.MemFault.TheVariants.{BadBase, BadSize}

-- a whole number of pages
abbrev pub is_paged : ℕ → Bool
is_paged n = n % 4096 == 0

-- some pages, at most 64 MiB, that end at or below address 2^56
abbrev pub is_good_size : ℕ → ℕ → Bool
is_good_size base size =
    nat_lt 0 size && is_paged size && nat_le size (2 ^ 26) && nat_le (base + size) (2 ^ 56)

-- whether `count` bytes from an address on are among those from `base` to `end`, which isn't one of them
abbrev pub covers : ℕ → ℕ → ℕ → ℕ → Bool
covers base end addr count = nat_le base addr && nat_le (addr + count) end

-- the refusal, by the first test that fails: the base, then the size
abbrev pub refusal_of : ℕ → ℕ → Option MemFault
refusal_of base size =
    if is_paged base then (if is_good_size base size then None else Some BadSize) else Some BadBase

-- a memory of zeros
abbrev pub zeroed : ℕ → ℕ → Memory
zeroed base size = record { base = base; bytes = replicate size 0 }

-- the memories that there are
pub record IsLegal (memory : Memory) : Type 0 where
  pub base_paged : memory.base % 4096 ≡ 0
  pub some : 0 < size_of memory
  pub size_paged : size_of memory % 4096 ≡ 0
  pub size_bound : size_of memory ≤ 2 ^ 26
  pub end_bound : memory.base + size_of memory ≤ 2 ^ 56
