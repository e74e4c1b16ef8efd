-- A disk that may only be read stays as it is.
use Rattle.std.proofs.Common.{◌≡◌, ◌++◌, ◌==◌, ℕ, Bool, true, false, List, Result, Ok, Err, length, refl, arith, nat_le, nat_lt}
use Rattle.iom_virtq.specs.Chains.{DescriptorChain}
use Rattle.iom_virtq.specs.Adding.{add_result}
use Rattle.iom_virtq.specs.declared.parts.More.{More}
use Rattle.iom_virtq.specs.declared.parts.More.TheVariants.{Next, Complete}
use Rattle.iom_virtq.specs.declared.parts.ChainFault.{ChainFault}
use Rattle.iom_blk.specs.declared.broken.Broken.{Broken}
use Rattle.iom_blk.specs.Device.{Device, sectors}
use Rattle.iom_blk.specs.Phases.{break_down, completed, after_index, after_ring, after_add, after_descriptor, with_descriptor, judged, after_header, after_data, after_used, after, is_ahead}
use Rattle.iom_blk.specs.Requests.{number_at, is_in, is_out, readable, writable, is_served, moves, moves_data}
use Rattle.iom_blk.specs.Sound.{IsSound, HoldsIn}
use Rattle.iom_blk.specs.declared.phase.Phase.{Phase}
use Rattle.iom_blk.specs.declared.phase.Phase.TheVariants.{Index, Ring, Descriptor, Header, Data, Status, UsedId, UsedLen, UsedIdx}
use Rattle.iom_blk.proofs.Breaks.{of_both}

abbrev Same : Device → Device → Type 0
Same d e = e.disk ≡ d.disk

pub broken_keeps : (d : Device) (reason : Broken) → (break_down d reason).disk ≡ d.disk
unfolding break_down
broken_keeps d reason = refl

index_keeps : (d : Device) (idx : ℕ) → Same d (after_index d idx)
unfolding after_index
index_keeps d idx =
    of_both (Same d) (idx == d.seen) _ _ (λ _. refl)
    (λ _. of_both (Same d) (is_ahead d idx) _ _ (λ _. broken_keeps d _) (λ _. refl))

ring_keeps : (d : Device) (head : ℕ) → Same d (after_ring d head)
unfolding after_ring
ring_keeps d head = of_both (Same d) (nat_le d.size head) _ _ (λ _. broken_keeps d _) (λ _. refl)

completed_keeps : (d : Device) → Same d (completed d)
unfolding completed
completed_keeps d =
    of_both (Same d) (nat_lt (readable d.chain) 16) _ _ (λ _. broken_keeps d _)
    (λ _. of_both (Same d) (nat_lt (writable d.chain) 1) _ _ (λ _. broken_keeps d _) (λ _. refl))

add_keeps : (d : Device) (addr len flags : ℕ) (added : Result More ChainFault) → Same d (after_add d addr len flags added)
add_keeps d addr len flags (Err fault) = broken_keeps d _
add_keeps d addr len flags (Ok (Next next)) = refl
add_keeps d addr len flags (Ok Complete) = completed_keeps (with_descriptor d addr len flags)

descriptor_keeps : (d : Device) (addr len flags next : ℕ) → Same d (after_descriptor d addr len flags next)
unfolding after_descriptor
descriptor_keeps d addr len flags next = add_keeps d addr len flags (add_result d.chain addr len flags next)

judged_keeps : (d : Device) → Same d (judged d)
unfolding judged
judged_keeps d = refl

header_keeps : (d : Device) (bytes : List ℕ) → Same d (after_header d bytes)
unfolding after_header
header_keeps d bytes =
    of_both (Same d) (length (d.header ++ bytes) == 16) (judged (record d { header = d.header ++ bytes })) (record d { header = d.header ++ bytes })
    (λ _. judged_keeps (record d { header = d.header ++ bytes })) (λ _. refl)

data_keeps : (d : Device) (position : ℕ) (bytes : List ℕ) → is_in d.header ≡ true → Same d (after_data d position bytes)
unfolding after_data
data_keeps d position bytes is = rw is refl

used_keeps : (d : Device) → Same d (after_used d)
unfolding after_used
used_keeps d = refl

-- its data are those of an IN
served_as : (header : List ℕ) (chain : DescriptorChain) (sectors : ℕ) (read_only : Bool) → is_served header chain sectors read_only ≡ true → read_only ≡ true →
    is_out header ≡ false
unfolding is_served
served_as header chain sectors read_only served only = grind (arith, served, only)

moved_as : (header : List ℕ) (chain : DescriptorChain) (sectors : ℕ) (read_only : Bool) → moves_data header chain sectors read_only ≡ true →
    (is_served header chain sectors read_only ≡ true) × (moves header ≡ true)
unfolding moves_data
moved_as header chain sectors read_only moved = (grind (arith, moved), grind (arith, moved))

moved_in : (header : List ℕ) (chain : DescriptorChain) (sectors : ℕ) (read_only : Bool) → moves_data header chain sectors read_only ≡ true → read_only ≡ true →
    is_in header ≡ true
moved_in header chain sectors read_only moved only =
    let parts = moved_as header chain sectors read_only moved in
    let none = served_as header chain sectors read_only parts.0 only in
    let some = parts.1 in
    grind (arith, none, some)

after_keeps : (d : Device) (phase : Phase) (bytes : List ℕ) → HoldsIn d.ready d.size d.chain d.header (sectors d.disk) d.read_only phase →
    d.read_only ≡ true → Same d (after d phase bytes)
unfolding after
after_keeps d Index bytes held only = index_keeps d (number_at bytes 0 2)
after_keeps d Ring bytes held only = ring_keeps d (number_at bytes 0 2)
after_keeps d (Descriptor i) bytes held only = descriptor_keeps d (number_at bytes 0 8) (number_at bytes 8 4) (number_at bytes 12 2) (number_at bytes 14 2)
after_keeps d Header bytes held only = header_keeps d bytes
after_keeps d (Data position) bytes held only = data_keeps d position bytes (moved_in d.header d.chain (sectors d.disk) d.read_only held.4 only)
after_keeps d Status bytes held only = refl
after_keeps d UsedId bytes held only = refl
after_keeps d UsedLen bytes held only = refl
after_keeps d UsedIdx bytes held only = used_keeps d

pub goes_on : (d : Device) (bytes : List ℕ) → IsSound d → d.read_only ≡ true → (after d d.phase bytes).disk ≡ d.disk
goes_on d bytes sound only = after_keeps d d.phase bytes sound.phase only
