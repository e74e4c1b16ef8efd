-- The reason why an answer breaks a device: VIRTIO 1.2, "Device Status Field" (DEVICE_NEEDS_RESET), "The Virtqueue Available Ring",
-- "The Virtqueue Descriptor Table" and "Block Device", "Device Operation". `took` has the device after it.
use Rattle.std.specs.Prelude.{ℕ, List, Option, Some, None, Result, Ok, Err, nat_le, nat_lt, if◌then◌else◌}
use Rattle.iom_virtq.specs.Adding.{add_result, with_part}
use Rattle.iom_virtq.specs.Bus.{BusReply}
use Rattle.iom_virtq.specs.Chains.{DescriptorChain}
use Rattle.iom_virtq.specs.declared.access.Access.{Access}
use Rattle.iom_virtq.specs.declared.access.Access.TheVariants as access
use Rattle.iom_virtq.specs.declared.parts.More.{More}
use Rattle.iom_virtq.specs.declared.parts.More.TheVariants.{Next, Complete}
use Rattle.iom_virtq.specs.declared.parts.ChainFault.{ChainFault}
use Rattle.iom_blk.specs.declared.broken.Broken.{Broken}
use Rattle.iom_blk.specs.declared.broken.Broken.TheVariants as broke
use Rattle.iom_blk.specs.declared.phase.Phase.{Phase}
use Rattle.iom_blk.specs.declared.phase.Phase.TheVariants as phase
use Rattle.iom_blk.specs.Device.{Device}
use Rattle.iom_blk.specs.Phases.{is_ahead}
use Rattle.iom_blk.specs.Requests.{number_at, readable, writable}

-- the lack of a complete chain: a header of 16 bytes, or else a status byte
unfoldable pub lack_of : DescriptorChain → Option Broken
lack_of chain =
    if nat_lt (readable chain) 16 then Some broke.ShortHeader
    else if nat_lt (writable chain) 1 then Some broke.NothingWritable
    else None

-- by a descriptor: the chain refuses it, or is complete with it and lacks something
abbrev pub broken_by_part : DescriptorChain → Result More ChainFault → Option Broken
broken_by_part chain (Err fault) = Some (broke.Descriptor fault)
broken_by_part chain (Ok (Next next)) = None
broken_by_part chain (Ok Complete) = lack_of chain

-- by the bytes that a granted access of a phase read
unfoldable pub broken_by_bytes : Device → Phase → List ℕ → Option Broken
broken_by_bytes d phase.Index bytes = if is_ahead d (number_at bytes 0 2) then Some broke.IndexAhead else None
broken_by_bytes d phase.Ring bytes = if nat_le d.size (number_at bytes 0 2) then Some broke.BadHead else None
broken_by_bytes d (phase.Descriptor i) bytes =
    let addr = number_at bytes 0 8 in
    let len = number_at bytes 8 4 in
    let flags = number_at bytes 12 2 in
    broken_by_part (with_part d.chain addr len flags) (add_result d.chain addr len flags (number_at bytes 14 2))
broken_by_bytes d _ bytes = None

-- by an answer of the bus; None: the device goes on
abbrev pub broken_by_access : Device → Access → List ℕ → Option Broken
broken_by_access d access.Ok bytes = broken_by_bytes d d.phase bytes
broken_by_access d (access.Denied cause) bytes = Some (broke.Denied cause)
broken_by_access d access.Outside bytes = Some broke.Outside

unfoldable pub broken_by : Device → BusReply → Option Broken
broken_by d reply = broken_by_access d reply.access reply.bytes
