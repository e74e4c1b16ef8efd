-- The facts that every access and every step keeps.
use Rattle.std.specs.Prelude.{ℕ, ◌≡◌, ◌+◌, ◌*◌, ◌%◌, ◌^◌, ◌<◌, ◌≤◌, Bool, true, List, length, is_some}
use Rattle.iom_virtq.specs.Chains.{DescriptorChain}
use Rattle.iom_blk.specs.declared.phase.Phase.{Phase}
use Rattle.iom_blk.specs.declared.phase.Phase.TheVariants.{Index, Ring, Descriptor, Header, Data, Status, UsedId, UsedLen, UsedIdx}
use Rattle.iom_blk.specs.Device.{Device, sectors}
use Rattle.iom_blk.specs.Phases.{is_broken}
use Rattle.iom_blk.specs.Requests.{readable, writable, data_length, moves_data}

-- a queue that may be ready: 1 to 64 descriptors, and three aligned areas that end at 2^64 or below
pub record IsGoodQueue (size desc avail used_ring : ℕ) : Type 0 where
  pub some : 1 ≤ size
  pub most : size ≤ 64
  pub desc_aligned : desc % 16 ≡ 0
  pub avail_aligned : avail % 2 ≡ 0
  pub used_aligned : used_ring % 4 ≡ 0
  pub desc_fits : desc + 16 * size ≤ 2 ^ 64
  pub avail_fits : avail + (4 + 2 * size) ≤ 2 ^ 64
  pub used_fits : used_ring + (4 + 8 * size) ≤ 2 ^ 64

-- the facts that hold in each phase of a request
abbrev pub HoldsIn : Bool → ℕ → DescriptorChain → List ℕ → ℕ → Bool → Phase → Type 0
HoldsIn ready size chain header sectors read_only Index = Unit {0}
HoldsIn ready size chain header sectors read_only Ring = ready ≡ true
HoldsIn ready size chain header sectors read_only (Descriptor i) =
    (ready ≡ true) × (i < size) × (chain.limit ≡ size) × (length header ≡ 0)
HoldsIn ready size chain header sectors read_only Header =
    (ready ≡ true) × (length header < 16) × (16 ≤ readable chain) × (1 ≤ writable chain)
HoldsIn ready size chain header sectors read_only (Data position) =
    (ready ≡ true) × (length header ≡ 16) × (16 ≤ readable chain) × (1 ≤ writable chain)
    × (moves_data header chain sectors read_only ≡ true) × (position < data_length header chain)
HoldsIn ready size chain header sectors read_only Status = (ready ≡ true) × (1 ≤ writable chain)
HoldsIn ready size chain header sectors read_only UsedId = ready ≡ true
HoldsIn ready size chain header sectors read_only UsedLen = ready ≡ true
HoldsIn ready size chain header sectors read_only UsedIdx = ready ≡ true

-- a disk: 1 to 65,536 whole sectors
pub record IsDisk (disk : List ℕ) : Type 0 where
  pub some : 512 ≤ length disk
  pub most : length disk ≤ 33554432
  pub whole : length disk % 512 ≡ 0

pub record IsSound (d : Device) : Type 0 where
  pub disk : IsDisk d.disk
  pub queue : d.ready ≡ true → IsGoodQueue d.size d.desc d.avail d.used_ring
  pub phase : HoldsIn d.ready d.size d.chain d.header (sectors d.disk) d.read_only d.phase
  pub interrupts : d.interrupts < 4
  pub broken : is_broken d ≡ is_some d.broken
