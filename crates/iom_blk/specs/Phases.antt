-- The phases of a request, one access each: VIRTIO 1.2, "Split Virtqueues" ("The Virtqueue Available Ring", "The Virtqueue Descriptor
-- Table", "The Virtqueue Used Ring") and "Block Device", "Device Operation". The cut into phases is this model's.
use Rattle.std.specs.Prelude.{ℕ, ◌+◌, ◌-◌, ◌*◌, ◌%◌, ◌^◌, ◌==◌, ◌&&◌, Bool, false, not, List, [], ◌∷◌, ◌++◌, length, take, drop, nat_le, nat_lt, Option, Some, None, Result, Ok, Err, if◌then◌else◌}
use Rattle.iom_bits.specs.Bits.{has_bit, with_bit}
use Rattle.iom_bits.specs.Bytes.{bytes_of_number}
use Rattle.iom_virtq.specs.Adding.{add_result, with_part}
use Rattle.iom_virtq.specs.Bus.{Ask, Read, Write, BusReply}
use Rattle.iom_virtq.specs.declared.access.Access.{Access}
use Rattle.iom_virtq.specs.declared.access.Access.TheVariants as access
use Rattle.iom_virtq.specs.declared.parts.More.{More}
use Rattle.iom_virtq.specs.declared.parts.More.TheVariants.{Next, Complete}
use Rattle.iom_virtq.specs.declared.parts.ChainFault.{ChainFault}
use Rattle.iom_blk.specs.declared.broken.Broken.{Broken}
use Rattle.iom_blk.specs.declared.broken.Broken.TheVariants as broke
use Rattle.iom_blk.specs.declared.phase.Phase.{Phase}
use Rattle.iom_blk.specs.declared.phase.Phase.TheVariants as phase
use Rattle.iom_blk.specs.declared.want.Moved.{Moved}
use Rattle.iom_blk.specs.declared.want.Moved.TheVariants as moved
use Rattle.iom_blk.specs.Device.{Device, sectors}
use Rattle.iom_blk.specs.Requests.{number_at, is_in, readable, writable, data_length, moves_data, status_of, used_length, header_address, header_count, data_address, data_count, status_address, place}

-- A device steps if Status has DRIVER_OK, bit 2, and FEATURES_OK, bit 3, and not DEVICE_NEEDS_RESET, bit 6, the queue is ready, and
-- the driver notified it.
unfoldable pub is_active : Device → Bool
is_active d = has_bit d.status 2 && has_bit d.status 3 && not (has_bit d.status 6) && d.ready && d.pending

-- a device that broke: DEVICE_NEEDS_RESET
abbrev pub is_broken : Device → Bool
is_broken d = has_bit d.status 6

-- the next entry of the used ring to write
abbrev pub used_entry : Device → ℕ
used_entry d = d.used_ring + 4 + 8 * (d.used % d.size)

-- the access that a phase asks the bus for
unfoldable pub ask_of : Device → Phase → Ask
ask_of d phase.Index = Read (d.avail + 2) 2
ask_of d phase.Ring = Read (d.avail + 4 + 2 * (d.seen % d.size)) 2
ask_of d (phase.Descriptor i) = Read (d.desc + 16 * i) 16
ask_of d phase.Header = Read (header_address d.header d.chain) (header_count d.header d.chain)
ask_of d (phase.Data position) =
    if is_in d.header
    then Write (data_address d.header d.chain position)
    (take (data_count d.header d.chain position) (drop (place d.header position) d.disk))
    else Read (data_address d.header d.chain position) (data_count d.header d.chain position)
ask_of d phase.Status = Write (status_address d.chain) (d.answer ∷ [])
ask_of d phase.UsedId = Write (used_entry d) (bytes_of_number 4 d.head)
ask_of d phase.UsedLen = Write (used_entry d + 4) (bytes_of_number 4 d.used_length)
ask_of d phase.UsedIdx = Write (d.used_ring + 2) (bytes_of_number 2 ((d.used + 1) % 2 ^ 16))

-- the access that a step asks the bus for; None: the step is idle
unfoldable pub asks : Device → Option Ask
asks d = if is_active d then Some (ask_of d d.phase) else None

-- A device that breaks: DEVICE_NEEDS_RESET is set, and bit 1 of InterruptStatus, a configuration change; the reason is kept.
unfoldable pub break_down : Device → Broken → Device
break_down d reason = record d {
  status = with_bit d.status 6;
  interrupts = with_bit d.interrupts 1;
  phase = phase.Index;
  broken = Some reason;
}

-- whether an available index is more than the queue size ahead of the requests taken
abbrev pub is_ahead : Device → ℕ → Bool
is_ahead d idx = nat_lt d.size ((idx + 2 ^ 16 - d.seen) % 2 ^ 16)

-- after the available index: it has nothing new, is too far ahead, or has a request to take
unfoldable pub after_index : Device → ℕ → Device
after_index d idx =
    if idx == d.seen then record d { pending = false }
    else if is_ahead d idx then break_down d broke.IndexAhead
    else record d { phase = phase.Ring }

-- after the head of a request
unfoldable pub after_ring : Device → ℕ → Device
after_ring d head =
    if nat_le d.size head then break_down d broke.BadHead
    else record d {
      phase = phase.Descriptor head;
      head = head;
      chain = record { limit = d.size; parts = [] };
      header = [];
      answer = 0;
      used_length = 0;
    }

-- after a descriptor; after the last one the chain must have a header and a status byte
abbrev pub with_descriptor : Device → ℕ → ℕ → ℕ → Device
with_descriptor d addr len flags = record d { chain = with_part d.chain addr len flags }

unfoldable pub completed : Device → Device
completed d =
    if nat_lt (readable d.chain) 16 then break_down d broke.ShortHeader
    else if nat_lt (writable d.chain) 1 then break_down d broke.NothingWritable
    else record d { phase = phase.Header }

abbrev pub after_add : Device → ℕ → ℕ → ℕ → Result More ChainFault → Device
after_add d addr len flags (Err fault) = break_down d (broke.Descriptor fault)
after_add d addr len flags (Ok (Next next)) = record (with_descriptor d addr len flags) { phase = phase.Descriptor next }
after_add d addr len flags (Ok Complete) = completed (with_descriptor d addr len flags)

unfoldable pub after_descriptor : Device → ℕ → ℕ → ℕ → ℕ → Device
after_descriptor d addr len flags next = after_add d addr len flags (add_result d.chain addr len flags next)

-- a request is judged once, when its header is complete
unfoldable pub judged : Device → Device
judged d =
    let answer = status_of d.header d.chain (sectors d.disk) d.read_only d.features in
    record d {
      answer = answer;
      used_length = used_length d.header d.chain answer;
      phase = if moves_data d.header d.chain (sectors d.disk) d.read_only then phase.Data 0 else phase.Status;
    }

unfoldable pub after_header : Device → List ℕ → Device
after_header d bytes =
    if length (d.header ++ bytes) == 16 then judged (record d { header = d.header ++ bytes })
    else record d { header = d.header ++ bytes }

-- the disk with the bytes of an OUT
abbrev pub put : List ℕ → ℕ → List ℕ → List ℕ
put disk at bytes = take at disk ++ (bytes ++ drop (at + length bytes) disk)

abbrev pub with_data : Device → ℕ → List ℕ → Device
with_data d position bytes =
    if is_in d.header then d else record d { disk = put d.disk (place d.header position) bytes }

abbrev pub data_phase : Device → ℕ → Phase
data_phase d position = if position == data_length d.header d.chain then phase.Status else phase.Data position

unfoldable pub after_data : Device → ℕ → List ℕ → Device
after_data d position bytes =
    record (with_data d position bytes) { phase = data_phase d (position + data_count d.header d.chain position) }

-- the request is given back, and bit 0 of InterruptStatus is set
unfoldable pub after_used : Device → Device
after_used d = record d {
  used = (d.used + 1) % 2 ^ 16;
  seen = (d.seen + 1) % 2 ^ 16;
  interrupts = with_bit d.interrupts 0;
  phase = phase.Index;
}

-- the device after a phase whose access was granted; `bytes` are the bytes read
unfoldable pub after : Device → Phase → List ℕ → Device
after d phase.Index bytes = after_index d (number_at bytes 0 2)
after d phase.Ring bytes = after_ring d (number_at bytes 0 2)
after d (phase.Descriptor i) bytes =
    after_descriptor d (number_at bytes 0 8) (number_at bytes 8 4) (number_at bytes 12 2) (number_at bytes 14 2)
after d phase.Header bytes = after_header d bytes
after d (phase.Data position) bytes = after_data d position bytes
after d phase.Status bytes = record d { phase = phase.UsedId }
after d phase.UsedId bytes = record d { phase = phase.UsedLen }
after d phase.UsedLen bytes = record d { phase = phase.UsedIdx }
after d phase.UsedIdx bytes = after_used d

-- the device after a reply: a refusal breaks it
abbrev pub replied : Device → Access → List ℕ → Device
replied d access.Ok bytes = after d d.phase bytes
replied d (access.Denied cause) bytes = break_down d (broke.Denied cause)
replied d access.Outside bytes = break_down d broke.Outside

unfoldable pub took : Device → BusReply → Device
took d reply = replied d reply.access reply.bytes

-- the outcome of a step
abbrev pub moved_of : Access → Moved
moved_of access.Ok = moved.Did
moved_of (access.Denied cause) = moved.Denied cause
moved_of access.Outside = moved.Outside
