-- The ones of a mask, step by step.
use Rattle.std.proofs.Common.{◌≡◌, ◌≢◌, ◌+◌, ◌-◌, ◌/◌, ◌%◌, ℕ, zero, suc, refl, arith}
use Rattle.iom_every.specs.Frames.{ones}

pub none : (count mask : ℕ) → count ≡ 0 → ones count mask ≡ 0
none count mask is = rw is refl

stepped : (count less mask : ℕ) → less ≡ count → ones (suc count) mask ≡ mask % 2 + ones less (mask / 2)
stepped count less mask is = rw is refl

pub step : (count mask : ℕ) → count ≢ 0 → ones count mask ≡ mask % 2 + ones (count - 1) (mask / 2)
step zero mask some = absurd (some refl)
step (suc count) mask some = stepped count (suc count - 1) mask (omega arith)
