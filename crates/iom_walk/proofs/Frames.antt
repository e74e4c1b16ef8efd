-- The frame behind a leaf has as many bits as a PPN.
use Rattle.std.proofs.Common.{◌≡◌, ◌+◌, ◌-◌, ◌*◌, ◌/◌, ◌%◌, ◌^◌, ◌<◌, ◌≤◌, ℕ, Bool, true, false, if◌then◌else◌, ap, subst, arith}
use Rattle.std.proofs.lemmas.Nat.{mod_below, pow_pos, pow-add, shr_below, shr_split, mul-add-lt}
use Rattle.iom_walk.specs.Verdict.{is_napot, ppn}
use Rattle.iom_walk.specs.Outcome.{frame_in, frame_of}

-- a number below 2^w with k other bits in the place of its low ones
filled_below : (p x k w : ℕ) → p < 2 ^ w → k ≤ w → p - p % 2 ^ k + x % 2 ^ k < 2 ^ w
filled_below p x k w below within =
    let high : p / 2 ^ k < 2 ^ (w - k) = shr_below p (w - k) k (subst (λ (n : ℕ). p < 2 ^ n) (omega arith) below) in
    let filled : p / 2 ^ k * 2 ^ k + x % 2 ^ k < 2 ^ k * 2 ^ (w - k) =
    mul-add-lt (p / 2 ^ k) (2 ^ k) (x % 2 ^ k) (2 ^ (w - k)) high (mod_below x (2 ^ k) (pow_pos k)) in
    let product : 2 ^ (k + (w - k)) ≡ 2 ^ k * 2 ^ (w - k) = pow-add 2 k (w - k) in
    let exponent : 2 ^ (k + (w - k)) ≡ 2 ^ w = ap (λ n. 2 ^ n) (omega arith) in
    omega (arith, shr_split p k, filled, product, exponent)

frame_below : (p address level : ℕ) (napot : Bool) → level < 5 → p < 2 ^ 44 →
    frame_in address (if napot then 2 ^ 4 else 2 ^ (9 * level)) p < 2 ^ 44
frame_below p address level true shallow below = filled_below p (address / 4096) 4 44 below (omega arith)
frame_below p address level false shallow below = filled_below p (address / 4096) (9 * level) 44 below (omega arith)

pub frame_fits : (word address level : ℕ) → level < 5 → frame_of address level word < 2 ^ 44
frame_fits word address level shallow =
    frame_below (ppn word) address level (is_napot word) shallow (mod_below (word / 2 ^ 10) (2 ^ 44) (pow_pos 44))
