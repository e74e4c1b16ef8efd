-- A text above 512 bytes is no line.
use Rattle.std.proofs.Common.{◌≡◌, ◌<◌, nat_lt, true, ℕ, List, length, refl, arith}
use Rattle.iom_tool.specs.Script.{Bad, Plain, debug_line_of, line_in}

pub too_long : (text : List ℕ) → 512 < length text → debug_line_of text ≡ Plain Bad
unfolding line_in
too_long text more =
    let long : nat_lt 512 (length text) ≡ true = grind arith in
    rw long refl
