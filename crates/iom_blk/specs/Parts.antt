-- A device taken apart.
use Rattle.std.specs.Prelude.{ℕ, List}
use Rattle.iom_blk.specs.Device.{Device}
use Rattle.iom_blk.specs.declared.parts.BlkParts.{BlkParts}

-- the device of a disk and the rest of it
abbrev pub device_of : List ℕ → BlkParts → Device
device_of disk parts = record {
  disk = disk;
  read_only = parts.read_only;
  features_sel = parts.features_sel;
  driver_sel = parts.driver_sel;
  features = parts.features;
  queue_sel = parts.queue_sel;
  size = parts.size;
  desc = parts.desc;
  avail = parts.avail;
  used_ring = parts.used_ring;
  ready = parts.ready;
  interrupts = parts.interrupts;
  status = parts.status;
  broken = parts.broken;
  pending = parts.pending;
  seen = parts.seen;
  used = parts.used;
  phase = parts.phase;
  head = parts.request.head;
  chain = parts.request.chain;
  header = parts.request.header.items;
  answer = parts.request.answer;
  used_length = parts.request.used_length;
}
