-- A number shifted by more than a word.
use Rattle.std.proofs.Common.{◌≡◌, ◌∙◌, ◌+◌, ◌-◌, ◌*◌, ◌%◌, ◌^◌, ◌≤◌, ℕ, mul_assoc, sym, ap, arith}
use Rattle.std.proofs.lemmas.Nat.{pow-add}

-- a shift by more than a word leaves nothing of it
pub shifted_out : (n k : ℕ) → 64 ≤ k → n * 2 ^ k % 2 ^ 64 ≡ 0
shifted_out n k out =
    let whole : k - 64 + 64 ≡ k = omega (arith, out) in
    let up : n * 2 ^ k ≡ n * 2 ^ (k - 64) * 2 ^ 64 = ap (λ (m : ℕ). n * 2 ^ m) (sym whole) ∙ ap (λ (p : ℕ). n * p) (pow-add 2 (k - 64) 64)
    ∙ sym (mul_assoc n (2 ^ (k - 64)) (2 ^ 64)) in
    let none : n * 2 ^ (k - 64) * 2 ^ 64 % 2 ^ 64 ≡ 0 = omega arith in ap (λ (m : ℕ). m % 2 ^ 64) up ∙ none
