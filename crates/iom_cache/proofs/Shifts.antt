-- What a shift by more than a word leaves.
use Rattle.std.proofs.Common.{◌≡◌, ◌/◌, ◌^◌, ◌<◌, ◌≤◌, ℕ, arith, lit≤}
use Rattle.std.proofs.Math.Nat.{div-eq_of_lt, pow-le-pow_right}

pub shifted_out : (n k : ℕ) → n < 2 ^ 64 → 64 ≤ k → n / 2 ^ k ≡ 0
shifted_out n k word out =
    let most : 2 ^ 64 ≤ 2 ^ k = pow-le-pow_right (lit≤ tt) out in
    div-eq_of_lt (omega arith)
