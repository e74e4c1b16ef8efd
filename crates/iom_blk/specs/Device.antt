-- A block device with one split queue: VIRTIO 1.2, "Split Virtqueues", "Virtio Over MMIO" and "Block Device".
use Rattle.std.specs.Prelude.{ℕ, ◌/◌, Bool, false, List, [], length, Option, None}
use Rattle.iom_virtq.specs.Chains.{DescriptorChain}
use Rattle.iom_blk.specs.declared.broken.Broken.{Broken}
use Rattle.iom_blk.specs.declared.phase.Phase.{Phase}
use Rattle.iom_blk.specs.declared.phase.Phase.TheVariants.{Index}

-- A device between two steps. Addresses are IOVAs. If no request is under way, `head` to `used_length` are those of the last one.
pub record Device : Type 0 where
  pub disk : List ℕ
  -- whether the disk is read-only
  pub read_only : Bool
  -- written by the driver: DeviceFeaturesSel, DriverFeaturesSel, the features that it accepts, QueueSel
  pub features_sel : ℕ
  pub driver_sel : ℕ
  pub features : ℕ
  pub queue_sel : ℕ
  -- queue 0: its size, the addresses of its descriptors, of its available ring and of its used ring, and whether it is ready
  pub size : ℕ
  pub desc : ℕ
  pub avail : ℕ
  pub used_ring : ℕ
  pub ready : Bool
  -- InterruptStatus and Status
  pub interrupts : ℕ
  pub status : ℕ
  -- why it broke since it was reset
  pub broken : Option Broken
  -- whether the driver notified; how many requests were taken up and how many given back, modulo 2^16
  pub pending : Bool
  pub seen : ℕ
  pub used : ℕ
  -- the request: the purpose of its next access, its first descriptor, its parts, its header so far, its status byte, and the
  -- length for the used ring
  pub phase : Phase
  pub head : ℕ
  pub chain : DescriptorChain
  pub header : List ℕ
  pub answer : ℕ
  pub used_length : ℕ

-- how many sectors a disk has
abbrev pub sectors : List ℕ → ℕ
sectors disk = length disk / 512

-- a device with this disk at reset
unfoldable pub at_reset : List ℕ → Bool → Device
at_reset disk read_only = record {
  disk = disk;
  read_only = read_only;
  features_sel = 0;
  driver_sel = 0;
  features = 0;
  queue_sel = 0;
  size = 0;
  desc = 0;
  avail = 0;
  used_ring = 0;
  ready = false;
  interrupts = 0;
  status = 0;
  broken = None;
  pending = false;
  seen = 0;
  used = 0;
  phase = Index;
  head = 0;
  chain = record { limit = 1; parts = [] };
  header = [];
  answer = 0;
  used_length = 0;
}
