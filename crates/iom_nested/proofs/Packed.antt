-- The packing of bits, step by step.
use Rattle.std.proofs.Common.{◌≡◌, ◌≢◌, ◌+◌, ◌*◌, ◌/◌, ◌%◌, ◌-◌, ◌==◌, ℕ, zero, suc, refl, arith, if◌then◌else◌}
use Rattle.iom_nested.specs.Files.{packed}

pub none : (count number mask : ℕ) → mask ≡ 0 → packed count number mask ≡ 0
none zero number mask is = refl
none (suc count) number mask is = rw is (none count (number / 2) 0 refl)

pub one : (count number mask : ℕ) → count ≡ 0 → packed count number mask ≡ 0
one count number mask is = rw is refl

stepped : (count less number mask : ℕ) → less ≡ count → packed (suc count) number mask
    ≡ (if mask % 2 == 1 then 2 * packed less (number / 2) (mask / 2) + number % 2 else packed less (number / 2) (mask / 2))
stepped count less number mask is = rw is refl

pub step : (count number mask : ℕ) → count ≢ 0 → packed count number mask
    ≡ (if mask % 2 == 1 then 2 * packed (count - 1) (number / 2) (mask / 2) + number % 2 else packed (count - 1) (number / 2) (mask / 2))
step zero number mask some = absurd (some refl)
step (suc count) number mask some = stepped count (suc count - 1) number mask (omega arith)
