-- A range of pages by its part.
use Rattle.std.proofs.Common.{◌≡◌, ℕ, ◌+◌, ◌-◌, ◌*◌, ◌/◌, ◌^◌, ◌≤◌, sym, ap, ◌∙◌, arith}
use Rattle.std.proofs.Math.Nat.{div-div-eq-div-mul, mul-div_cancel}
use Rattle.std.proofs.lemmas.Nat.{pow-add, pow_pos}

pub raised_part : (part width wider : ℕ) → width ≤ wider → part * 2 ^ width / 2 ^ wider ≡ part / 2 ^ (wider - width)
raised_part part width wider le =
    let whole : width + (wider - width) ≡ wider = omega (arith, le) in
    ap (λ k. part * 2 ^ width / 2 ^ k) (sym whole)
    ∙ ap (λ d. part * 2 ^ width / d) (pow-add 2 width (wider - width))
    ∙ sym (div-div-eq-div-mul (part * 2 ^ width) (2 ^ width) (2 ^ (wider - width)))
    ∙ ap (λ n. n / 2 ^ (wider - width)) (mul-div_cancel part (pow_pos width))
