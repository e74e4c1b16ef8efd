-- A device that broke stays so, for the same reason, until it is reset.
use Rattle.std.proofs.Common.{◌≡◌, ◌∙◌, ◌<◌, ◌==◌, ℕ, Bool, true, false, Some, None, refl, arith, nat_le, if◌then◌else◌}
use Rattle.iom_bits.specs.Bits.{has_bit, with_bit}
use Rattle.iom_virtq.specs.Bus.{Ask}
use Rattle.iom_blk.specs.declared.broken.Broken.{Broken}
use Rattle.iom_blk.specs.Device.{Device}
use Rattle.iom_blk.specs.Phases.{ask_of, asks, is_active, is_broken, break_down}
use Rattle.iom_blk.specs.Registers.{with_write, with_status, status_after, with_ready, accepting, with_queue, is_queue, is_free}

-- it asks for nothing
not_active : (d : Device) → is_broken d ≡ true → is_active d ≡ false
unfolding is_active
not_active d broke = grind (arith, broke)

none_asked : (active : Bool) (ask : Ask) → active ≡ false → (if active then Some ask else None) ≡ None
none_asked active ask idle = rw idle refl

pub broken_asks_nothing : (d : Device) → is_broken d ≡ true → asks d ≡ None
unfolding asks
broken_asks_nothing d broke = none_asked (is_active d) (ask_of d d.phase) (not_active d broke)

-- a refusal breaks it
pub bit_is_set : (word : ℕ) → has_bit (with_bit word 6) 6 ≡ true
unfolding has_bit
bit_is_set word = grind arith

pub broken_is_broken : (d : Device) (reason : Broken) → is_broken (break_down d reason) ≡ true
unfolding break_down
broken_is_broken d reason = bit_is_set d.status

-- a reset mends it
pub no_bit_is_set : has_bit 0 6 ≡ false
unfolding has_bit
no_bit_is_set = grind arith

-- a fact of both branches is one of the choice
pub of_both : (P : Device → Type 0) (b : Bool) (x y : Device) → (b ≡ true → P x) → (b ≡ false → P y) → P (if b then x else y)
of_both P true x y of_true of_false = of_true refl
of_both P false x y of_true of_false = of_false refl

abbrev Keeps : Device → Device → Type 0
Keeps d e = (e.broken ≡ d.broken) × (is_broken e ≡ is_broken d)

-- Status keeps bit 6
pub status_keeps : (read_only : Bool) (status features value : ℕ) → has_bit (status_after read_only status features value) 6 ≡ has_bit status 6
unfolding has_bit status_after
status_keeps read_only status features value = grind arith

accepting_keeps : (d : Device) (value : ℕ) → Keeps d (accepting d value)
unfolding accepting
accepting_keeps d value =
    of_both (Keeps d) (has_bit d.status 3) _ _ (λ _. (refl, refl))
    (λ _. of_both (Keeps d) (d.driver_sel == 0) _ _ (λ _. (refl, refl))
    (λ _. of_both (Keeps d) (d.driver_sel == 1) _ _ (λ _. (refl, refl)) (λ _. (refl, refl))))

ready_keeps : (d : Device) (ready : Bool) → Keeps d (with_ready d ready)
unfolding with_ready
ready_keeps d true = of_both (Keeps d) (is_queue d) _ _ (λ _. (refl, refl)) (λ _. (refl, refl))
ready_keeps d false = (refl, refl)

queue_keeps : (d : Device) (off value : ℕ) → Keeps d (with_queue d off value)
unfolding with_queue
queue_keeps d off value =
    of_both (Keeps d) (off == 0x38) _ _ (λ _. (refl, refl)) (λ _. of_both (Keeps d) (off == 0x80) _ _ (λ _. (refl, refl))
    (λ _. of_both (Keeps d) (off == 0x84) _ _ (λ _. (refl, refl)) (λ _. of_both (Keeps d) (off == 0x90) _ _ (λ _. (refl, refl))
    (λ _. of_both (Keeps d) (off == 0x94) _ _ (λ _. (refl, refl)) (λ _. of_both (Keeps d) (off == 0xa0) _ _ (λ _. (refl, refl))
    (λ _. of_both (Keeps d) (off == 0xa4) _ _ (λ _. (refl, refl)) (λ _. (refl, refl))))))))

not_zero : (value : ℕ) → 0 < value → (value == 0) ≡ true → ⊥
not_zero value some none = grind (arith, some, none)

with_status_keeps : (d : Device) (value : ℕ) → 0 < value → Keeps d (with_status d value)
unfolding with_status
with_status_keeps d value some =
    of_both (Keeps d) (value == 0) _ _ (λ none. absurd (not_zero value some none))
    (λ _. (refl, status_keeps d.read_only d.status d.features value))

at_status : (off : ℕ) → (off == 0x70) ≡ true → off ≡ 0x70
at_status off is = grind (arith, is)

written_keeps : (d : Device) (off value : ℕ) → (off ≡ 0x70 → 0 < value) → Keeps d (with_write d off value)
unfolding with_write
written_keeps d off value no_reset =
    of_both (Keeps d) (nat_le 0x100 off) _ _ (λ _. (refl, refl)) (λ _. of_both (Keeps d) (off == 0x14) _ _ (λ _. (refl, refl))
    (λ _. of_both (Keeps d) (off == 0x20) _ _ (λ _. accepting_keeps d value)
    (λ _. of_both (Keeps d) (off == 0x24) _ _ (λ _. (refl, refl)) (λ _. of_both (Keeps d) (off == 0x30) _ _ (λ _. (refl, refl))
    (λ _. of_both (Keeps d) (off == 0x44) _ _
    (λ _. of_both (Keeps d) (d.queue_sel == 0) _ _ (λ _. ready_keeps d (has_bit value 0)) (λ _. (refl, refl)))
    (λ _. of_both (Keeps d) (off == 0x50) _ _ (λ _. of_both (Keeps d) (value == 0) _ _ (λ _. (refl, refl)) (λ _. (refl, refl)))
    (λ _. of_both (Keeps d) (off == 0x64) _ _ (λ _. (refl, refl))
    (λ _. of_both (Keeps d) (off == 0x70) _ _ (λ is. with_status_keeps d value (no_reset (at_status off is)))
    (λ _. of_both (Keeps d) (is_free d) _ _ (λ _. queue_keeps d off value) (λ _. (refl, refl)))))))))))

pub written_stays : (d : Device) (off value : ℕ) → (off ≡ 0x70 → 0 < value) → is_broken d ≡ true →
    is_broken (with_write d off value) ≡ true
written_stays d off value no_reset broke = (written_keeps d off value no_reset).1 ∙ broke

pub written_reason : (d : Device) (off value : ℕ) → (off ≡ 0x70 → 0 < value) → (with_write d off value).broken ≡ d.broken
written_reason d off value no_reset = (written_keeps d off value no_reset).0
