-- What a device reports of why it broke.
use Rattle.std.proofs.Common.{◌≡◌, ◌∙◌, ◌++◌, ◌==◌, ℕ, Bool, true, false, List, Option, Some, None, IsSome, Result, Ok, Err, length, refl, sym, arith, nat_le, nat_lt, if◌then◌else◌}
use Rattle.std.specs.Prelude.{is_some}
use Rattle.iom_virtq.specs.Adding.{add_result, with_part}
use Rattle.iom_virtq.specs.Bus.{Ask, reply_of}
use Rattle.iom_virtq.specs.declared.access.Access.{Access}
use Rattle.iom_virtq.specs.declared.access.Access.TheVariants as access
use Rattle.iom_virtq.specs.declared.parts.More.{More}
use Rattle.iom_virtq.specs.declared.parts.More.TheVariants.{Next, Complete}
use Rattle.iom_virtq.specs.declared.parts.ChainFault.{ChainFault}
use Rattle.iom_blk.specs.declared.broken.Broken.{Broken}
use Rattle.iom_blk.specs.declared.broken.Broken.TheVariants.{IndexAhead, BadHead}
use Rattle.iom_blk.specs.declared.phase.Phase.{Phase}
use Rattle.iom_blk.specs.declared.phase.Phase.TheVariants.{Index, Ring, Descriptor, Header, Data, Status, UsedId, UsedLen, UsedIdx}
use Rattle.iom_blk.specs.Breaking.{lack_of, broken_by_part, broken_by_bytes, broken_by}
use Rattle.iom_blk.specs.Device.{Device}
use Rattle.iom_blk.specs.Phases.{ask_of, asks, is_active, is_ahead, is_broken, break_down, completed, after_index, after_ring, after_add, after_descriptor, with_descriptor, judged, after_header, after_data, after_used, after}
use Rattle.iom_blk.specs.Requests.{number_at, is_in, readable, writable}
use Rattle.iom_blk.specs.Sound.{IsSound}
use Rattle.iom_blk.proofs.Breaks.{of_both}

-- a device that asks for something isn't broken
active_is_whole : (d : Device) → is_active d ≡ true → is_broken d ≡ false
unfolding is_active
active_is_whole d active = grind (arith, active)

then_active : (active : Bool) (ask : Ask) → IsSome (if active then Some ask else None) → active ≡ true
then_active true ask some = refl
then_active false ask some = some

none_kept : (kept : Option Broken) → is_some kept ≡ false → kept ≡ None
none_kept None none = refl
none_kept (Some reason) none = absurd cc

pub asked_is_whole : (d : Device) → IsSound d → IsSome (asks d) → d.broken ≡ None
unfolding asks
asked_is_whole d sound some =
    none_kept d.broken (sym sound.broken ∙ active_is_whole d (then_active (is_active d) (ask_of d d.phase) some))

pub broken_tells : (d : Device) (reason : Broken) → (break_down d reason).broken ≡ Some reason
unfolding break_down
broken_tells d reason = refl

-- what each row leaves
abbrev Tells : Option Broken → Device → Type 0
Tells told e = e.broken ≡ told

of_choice : (b : Bool) (x y : Device) (p q : Option Broken) → (b ≡ true → Tells p x) → (b ≡ false → Tells q y) →
    Tells (if b then p else q) (if b then x else y)
of_choice true x y p q of_true of_false = of_true refl
of_choice false x y p q of_true of_false = of_false refl

none_new : (d : Device) (idx : ℕ) → (idx == d.seen) ≡ true → is_ahead d idx ≡ false
none_new d idx same = grind (arith, same)

index_tells : (d : Device) (idx : ℕ) → d.broken ≡ None → Tells (if is_ahead d idx then Some IndexAhead else None) (after_index d idx)
unfolding after_index
index_tells d idx none =
    of_both (Tells (if is_ahead d idx then Some IndexAhead else None)) (idx == d.seen) _ _ (λ same. rw (none_new d idx same) none)
    (λ _. of_choice (is_ahead d idx) _ _ _ _ (λ _. broken_tells d IndexAhead) (λ _. none))

ring_tells : (d : Device) (head : ℕ) → d.broken ≡ None → Tells (if nat_le d.size head then Some BadHead else None) (after_ring d head)
unfolding after_ring
ring_tells d head none = of_choice (nat_le d.size head) _ _ _ _ (λ _. broken_tells d BadHead) (λ _. none)

completed_tells : (d : Device) → d.broken ≡ None → Tells (lack_of d.chain) (completed d)
unfolding completed lack_of
completed_tells d none =
    of_choice (nat_lt (readable d.chain) 16) _ _ _ _ (λ _. broken_tells d _)
    (λ _. of_choice (nat_lt (writable d.chain) 1) _ _ _ _ (λ _. broken_tells d _) (λ _. none))

part_tells : (d : Device) (addr len flags : ℕ) (added : Result More ChainFault) → d.broken ≡ None →
    Tells (broken_by_part (with_part d.chain addr len flags) added) (after_add d addr len flags added)
part_tells d addr len flags (Err fault) none = broken_tells d _
part_tells d addr len flags (Ok (Next next)) none = none
part_tells d addr len flags (Ok Complete) none = completed_tells (with_descriptor d addr len flags) none

descriptor_tells : (d : Device) (addr len flags next : ℕ) → d.broken ≡ None →
    Tells (broken_by_part (with_part d.chain addr len flags) (add_result d.chain addr len flags next)) (after_descriptor d addr len flags next)
unfolding after_descriptor
descriptor_tells d addr len flags next none = part_tells d addr len flags (add_result d.chain addr len flags next) none

judged_tells : (d : Device) → d.broken ≡ None → Tells None (judged d)
unfolding judged
judged_tells d none = none

header_tells : (d : Device) (bytes : List ℕ) → d.broken ≡ None → Tells None (after_header d bytes)
unfolding after_header
header_tells d bytes none =
    of_both (Tells None) (length (d.header ++ bytes) == 16) _ _ (λ _. judged_tells (record d { header = d.header ++ bytes }) none) (λ _. none)

data_tells : (d : Device) (position : ℕ) (bytes : List ℕ) → d.broken ≡ None → Tells None (after_data d position bytes)
unfolding after_data
data_tells d position bytes none = of_both (Tells None) (is_in d.header) _ _ (λ _. none) (λ _. none)

used_tells : (d : Device) → d.broken ≡ None → Tells None (after_used d)
unfolding after_used
used_tells d none = none

after_tells : (d : Device) (phase : Phase) (bytes : List ℕ) → d.broken ≡ None → (after d phase bytes).broken ≡ broken_by_bytes d phase bytes
unfolding after broken_by_bytes
after_tells d Index bytes none = index_tells d (number_at bytes 0 2) none
after_tells d Ring bytes none = ring_tells d (number_at bytes 0 2) none
after_tells d (Descriptor i) bytes none =
    descriptor_tells d (number_at bytes 0 8) (number_at bytes 8 4) (number_at bytes 12 2) (number_at bytes 14 2) none
after_tells d Header bytes none = header_tells d bytes none
after_tells d (Data position) bytes none = data_tells d position bytes none
after_tells d Status bytes none = none
after_tells d UsedId bytes none = none
after_tells d UsedLen bytes none = none
after_tells d UsedIdx bytes none = used_tells d none

pub granted_tells : (d : Device) (answer : Access) (bytes : List ℕ) → answer ≡ access.Ok → d.broken ≡ None →
    (after d d.phase bytes).broken ≡ broken_by d (reply_of answer bytes)
unfolding broken_by
granted_tells d answer bytes is none = rw is (after_tells d d.phase bytes none)
