-- Chains of descriptors: VIRTIO 1.2, "The Virtqueue Descriptor Table". A part is the buffer of one descriptor; its address is an
-- IOVA.
use Rattle.std.specs.Prelude.{ℕ, zero, suc, ◌≡◌, ◌+◌, ◌/◌, ◌^◌, ◌<◌, ◌≤◌, ◌==◌, ◌&&◌, Bool, true, false, IsTrue, List, [], ◌∷◌, ◌++◌, length, take, get_or, nat_le, if◌then◌else◌}
use Rattle.std.specs.List.{list_all, prefix_len}
use Rattle.iom_virtq.specs.declared.parts.Side.{Side}
use Rattle.iom_virtq.specs.declared.parts.Side.TheVariants.{Readable, Writable}
use Rattle.iom_virtq.specs.declared.parts.ChainPart.{ChainPart}

-- a chain: how many descriptors its queue has, and its parts in their order
pub record DescriptorChain : Type 0 where
  pub limit : ℕ
  pub parts : List ChainPart

-- one byte: the number of its part, and its address
pub record Item : Type 0 where
  pub part : ℕ
  pub address : ℕ

abbrev pub same_side : Side → Side → Bool
same_side Readable Readable = true
same_side Readable Writable = false
same_side Writable Readable = false
same_side Writable Writable = true

-- how many bytes a part has on a side
abbrev pub len_on : ChainPart → Side → ℕ
len_on part side = if same_side part.side side then part.len else 0

-- `count` bytes of a part from an address on
unfoldable pub bytes_of : ℕ → ℕ → ℕ → List Item
bytes_of part address zero = []
bytes_of part address (suc count) = record { part = part; address = address } ∷ bytes_of part (address + 1) count

-- the bytes that parts have on a side, one after the other; the first part has this number
unfoldable pub items_from : Side → ℕ → List ChainPart → List Item
items_from side number [] = []
items_from side number (part ∷ parts) = bytes_of number part.addr (len_on part side) ++ items_from side (number + 1) parts

-- the bytes of a side of a chain
abbrev pub bytes_on : DescriptorChain → Side → List Item
bytes_on chain side = items_from side 0 chain.parts

-- the address of the first of some bytes
abbrev pub address_of : List Item → ℕ
address_of [] = 0
address_of (first ∷ others) = first.address

-- two bytes of one part and one page
abbrev pub is_together : Item → Item → Bool
is_together first other = first.part == other.part && first.address / 4096 == other.address / 4096

-- how long the longest run is, from the first byte on: of one part and one page, and at most 64 bytes
abbrev pub run_length : List Item → ℕ
run_length [] = 0
run_length (first ∷ others) = prefix_len (is_together first) (take 64 (first ∷ others))

-- any two of some bytes are of one part and one page
abbrev pub IsRun : List Item → Type 0
IsRun items =
    (i j : ℕ) (none : Item) → i < length items → j < length items → IsTrue (is_together (get_or items i none) (get_or items j none))

-- a piece, said without a function: it begins at the first of some bytes, is a run, and no longer run begins there
pub record IsPiece (items : List Item) (address count : ℕ) : Type 0 where
  pub first : address ≡ address_of items
  pub some : 1 ≤ count
  pub few : count ≤ 64
  pub within : count ≤ length items
  pub run : IsRun (take count items)
  pub longest : (n : ℕ) → n ≤ 64 → n ≤ length items → IsRun (take n items) → n ≤ count

-- the last byte of a part is below 2^64
abbrev pub fits : ChainPart → Bool
fits part = nat_le (part.addr + part.len) (2 ^ 64)

-- whether there is a chain of these parts in a queue of so many descriptors
abbrev pub is_chain : ℕ → List ChainPart → Bool
is_chain limit parts = nat_le limit 64 && (nat_le (length parts) limit && list_all fits parts)
