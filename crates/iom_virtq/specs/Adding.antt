-- How a descriptor becomes a chain's next part, or is refused: VIRTIO 1.2, "The Virtqueue Descriptor Table", "Message Framing" and
-- "Indirect Descriptors".
use Rattle.std.specs.Prelude.{ℕ, ◌+◌, ◌^◌, ◌<◌, ◌&&◌, Bool, not, List, [], ◌∷◌, ◌++◌, length, Option, Some, None, Result, Ok, Err, nat_le, nat_lt, if◌then◌else◌}
use Rattle.std.specs.List.{list_any}
use Rattle.iom_bits.specs.Bits.{has_bit}
use Rattle.iom_virtq.specs.declared.parts.Side.{Side}
use Rattle.iom_virtq.specs.declared.parts.Side.TheVariants.{Readable, Writable}
use Rattle.iom_virtq.specs.declared.parts.ChainPart.{ChainPart}
use Rattle.iom_virtq.specs.declared.parts.More.{More}
use Rattle.iom_virtq.specs.declared.parts.More.TheVariants.{Next, Complete}
use Rattle.iom_virtq.specs.declared.parts.ChainFault.{ChainFault}
use Rattle.iom_virtq.specs.declared.parts.ChainFault.TheVariants.{Indirect, ReadAfterWrite, TooLong, BadNext, Wraps}
use Rattle.iom_virtq.specs.Chains.{DescriptorChain, same_side}

-- the flags by their bits: VIRTQ_DESC_F_NEXT, VIRTQ_DESC_F_WRITE, VIRTQ_DESC_F_INDIRECT; others are ignored
abbrev pub names_next : ℕ → Bool
names_next flags = has_bit flags 0

abbrev pub is_written : ℕ → Bool
is_written flags = has_bit flags 1

abbrev pub is_indirect : ℕ → Bool
is_indirect flags = has_bit flags 2

abbrev pub is_on : Side → ChainPart → Bool
is_on side part = same_side part.side side

-- whether a part is device-writable
abbrev pub has_written : List ChainPart → Bool
has_written parts = list_any (is_on Writable) parts

-- the first refusal that applies
unfoldable pub refusal_of : DescriptorChain → ℕ → ℕ → ℕ → ℕ → Option ChainFault
refusal_of chain addr len flags next =
    if is_indirect flags then Some Indirect
    else if not (is_written flags) && has_written chain.parts then Some ReadAfterWrite
    else if nat_le chain.limit (length chain.parts) then Some TooLong
    else if names_next flags && nat_le chain.limit next then Some BadNext
    else if nat_lt (2 ^ 64) (addr + len) then Some Wraps
    else None

-- the chain with the descriptor as its last part
abbrev pub part_of : ℕ → ℕ → ℕ → ChainPart
part_of addr len flags = record { side = if is_written flags then Writable else Readable; addr = addr; len = len }

abbrev pub with_part : DescriptorChain → ℕ → ℕ → ℕ → DescriptorChain
with_part chain addr len flags = record chain { parts = chain.parts ++ part_of addr len flags ∷ [] }

-- the step after this descriptor: a next one, or none
abbrev pub more_of : ℕ → ℕ → More
more_of flags next = if names_next flags then Next next else Complete

abbrev pub added_or : Option ChainFault → More → Result More ChainFault
added_or None more = Ok more
added_or (Some fault) more = Err fault

unfoldable pub add_result : DescriptorChain → ℕ → ℕ → ℕ → ℕ → Result More ChainFault
add_result chain addr len flags next = added_or (refusal_of chain addr len flags next) (more_of flags next)

-- a next descriptor is below the limit
abbrev pub IsBelow : ℕ → More → Type 0
IsBelow limit (Next next) = next < limit
IsBelow limit Complete = Unit {0}
