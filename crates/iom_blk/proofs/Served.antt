-- What follows where a request is served.
use Rattle.std.proofs.Common.{◌≡◌, ◌+◌, ◌-◌, ◌*◌, ◌<◌, ◌≤◌, ◌^◌, ℕ, true, false, Bool, List, length, refl, sym, ◌∙◌, subst, arith, if◌then◌else◌}
use Rattle.iom_virtq.specs.Chains.{DescriptorChain}
use Rattle.iom_blk.specs.Requests.{sector_of, is_in, readable, writable, data_length, is_served, moves_data, status_of, header_count, data_count, place}
use Rattle.iom_blk.specs.Sound.{HoldsIn}
use Rattle.iom_blk.specs.declared.phase.Phase.{Phase}
use Rattle.iom_blk.specs.declared.phase.Phase.TheVariants.{Header, Data, Status}

served_within : (header : List ℕ) (chain : DescriptorChain) (sectors : ℕ) (read_only : Bool) → is_served header chain sectors read_only ≡ true →
    sector_of header * 512 + data_length header chain ≤ sectors * 512
unfolding is_served
served_within header chain sectors read_only served = grind (arith, served)

moved_is_served : (header : List ℕ) (chain : DescriptorChain) (sectors : ℕ) (read_only : Bool) → moves_data header chain sectors read_only ≡ true →
    is_served header chain sectors read_only ≡ true
unfolding moves_data
moved_is_served header chain sectors read_only moved = grind (arith, moved)

answered_is_served : (header : List ℕ) (chain : DescriptorChain) (sectors : ℕ) (read_only : Bool) (features : ℕ) → is_in header ≡ true →
    status_of header chain sectors read_only features ≡ 0 → is_served header chain sectors read_only ≡ true
unfolding status_of
answered_is_served header chain sectors read_only features is answered = grind (arith, is, answered)

in_length : (header : List ℕ) (chain : DescriptorChain) → is_in header ≡ true → data_length header chain ≡ writable chain - 1
unfolding data_length
in_length header chain is = rw is refl

-- an IN that is answered 0 has no more bytes than the disk, and one for its status
pub written_fits : (header : List ℕ) (chain : DescriptorChain) (answer sectors : ℕ) (read_only : Bool) (features : ℕ) → answer ≡ status_of header chain sectors read_only features →
    is_in header ≡ true → answer ≡ 0 → sectors ≤ 65536 → writable chain < 2 ^ 32
written_fits header chain answer sectors read_only features judged is answered disk =
    let within : sector_of header * 512 + data_length header chain ≤ sectors * 512 =
    served_within header chain sectors read_only (answered_is_served header chain sectors read_only features is (sym judged ∙ answered)) in
    omega (arith, within, in_length header chain is)

-- the data that are moved lie on the disk
pub moved_within : (header : List ℕ) (chain : DescriptorChain) (sectors : ℕ) (read_only : Bool) → moves_data header chain sectors read_only ≡ true →
    sector_of header * 512 + data_length header chain ≤ sectors * 512
moved_within header chain sectors read_only moved = served_within header chain sectors read_only (moved_is_served header chain sectors read_only moved)

pub place_within : (header : List ℕ) (chain : DescriptorChain) (sectors : ℕ) (read_only : Bool) (position : ℕ) → moves_data header chain sectors read_only ≡ true →
    position < data_length header chain →
    place header position + data_count header chain position ≤ sectors * 512
unfolding data_count
place_within header chain sectors read_only position moved before =
    let within : sector_of header * 512 + data_length header chain ≤ sectors * 512 =
    moved_within header chain sectors read_only moved in
    omega (arith, within)

-- a piece ends at the end of the header, and of the data
pub header_count_within : (header : List ℕ) (chain : DescriptorChain) → length header < 16 → length header + header_count header chain ≤ 16
unfolding header_count
header_count_within header chain part = omega arith

pub data_count_within : (header : List ℕ) (chain : DescriptorChain) (position : ℕ) → position < data_length header chain →
    position + data_count header chain position ≤ data_length header chain
unfolding data_count
data_count_within header chain position before = omega arith

-- what holds of a request that was judged
has_data : (header : List ℕ) (chain : DescriptorChain) (sectors : ℕ) (read_only : Bool) → moves_data header chain sectors read_only ≡ true → 0 < data_length header chain
unfolding moves_data
has_data header chain sectors read_only moved = grind (arith, moved)

judged_by : (ready : Bool) (size : ℕ) (chain : DescriptorChain) (header : List ℕ) (sectors : ℕ) (read_only moved : Bool) → moved ≡ moves_data header chain sectors read_only →
    ready ≡ true → length header ≡ 16 → 16 ≤ readable chain → 1 ≤ writable chain →
    HoldsIn ready size chain header sectors read_only (if moved then Data 0 else Status)
judged_by ready size chain header sectors read_only false same is_ready whole enough status = (is_ready, status)
judged_by ready size chain header sectors read_only true same is_ready whole enough status =
    (is_ready, whole, enough, status, sym same, has_data header chain sectors read_only (sym same))

pub judged_holds : (ready : Bool) (size : ℕ) (chain : DescriptorChain) (header whole : List ℕ) (sectors : ℕ) (read_only : Bool) (before phase : Phase) →
    HoldsIn ready size chain header sectors read_only before → before ≡ Header → length whole ≡ 16 →
    phase ≡ (if moves_data whole chain sectors read_only then Data 0 else Status) →
    HoldsIn ready size chain whole sectors read_only phase
judged_holds ready size chain header whole sectors read_only before phase held is long next =
    let at_header : HoldsIn ready size chain header sectors read_only Header = subst (HoldsIn ready size chain header sectors read_only) is held in
    subst (HoldsIn ready size chain whole sectors read_only) (sym next)
    (judged_by ready size chain whole sectors read_only (moves_data whole chain sectors read_only) refl at_header.0 long at_header.2 at_header.3)
