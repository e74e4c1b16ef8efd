-- Why a line is bad that is too long with its numbers.
use Rattle.std.proofs.Common.{◌≡◌, ◌<◌, nat_lt, true, ℕ, List, codes, length, refl, arith}
use Rattle.iom_names.proofs.Long.{too_long as long_line}
use Rattle.iom_slips.specs.Slips.{reason, slip_of}

pub too_long : (text : List ℕ) → 512 < length text → slip_of text ≡ codes "a line has at most 512 bytes"
unfolding slip_of reason
too_long text more =
    let long : nat_lt 512 (length text) ≡ true = grind arith in
    rw (long_line text more, long) refl
