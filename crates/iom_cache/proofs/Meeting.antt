-- Two ranges meet exactly if they have a page in common.
use Rattle.std.proofs.Common.{◌≡◌, ℕ, ◌+◌, ◌-◌, ◌/◌, ◌^◌, ◌≤◌, ◌==◌, true, nat_le, refl, sym, ap, ◌∙◌, arith}
use Rattle.std.proofs.Math.Nat.{div-div-eq-div-mul}
use Rattle.std.proofs.lemmas.Nat.{pow-add}
use Rattle.std.proofs.lemmas.Bool.{cond_both, eqb-true, leb-true}
use Rattle.iom_cache.specs.Drops.{meets}
use Rattle.iom_cache.specs.Ranges.{HaveCommonPage}

-- what is the same above some bits is the same above more
above_more : (one other low high : ℕ) → low ≤ high → one / 2 ^ low ≡ other / 2 ^ low → one / 2 ^ high ≡ other / 2 ^ high
above_more one other low high le same =
    let whole : low + (high - low) ≡ high = omega (arith, le) in
    let cut : (n : ℕ) → n / 2 ^ high ≡ n / 2 ^ low / 2 ^ (high - low) =
    λ n. ap (λ k. n / 2 ^ k) (sym whole) ∙ ap (λ d. n / d) (pow-add 2 low (high - low)) ∙ sym (div-div-eq-div-mul n (2 ^ low) (2 ^ (high - low))) in
    cut one ∙ ap (λ q. q / 2 ^ (high - low)) same ∙ sym (cut other)

is_same : (m n : ℕ) → m ≡ n → (m == n) ≡ true
is_same m n same = grind (arith, same)

common : (page width own own_width : ℕ) → meets page width own own_width ≡ true → HaveCommonPage page width own own_width
common page width own own_width is =
    cond_both (nat_le width own_width) own_width width
    (λ wider. (own / 2 ^ wider == page / 2 ^ wider) ≡ true → HaveCommonPage page width own own_width)
    (λ _ is. record { common = page; first = refl; second = sym (eqb-true (own / 2 ^ own_width) (page / 2 ^ own_width) is) })
    (λ _ is. record { common = own; first = eqb-true (own / 2 ^ width) (page / 2 ^ width) is; second = refl })
    is

met : (page width own own_width : ℕ) → HaveCommonPage page width own own_width → meets page width own own_width ≡ true
met page width own own_width it =
    cond_both (nat_le width own_width) own_width width (λ wider. (own / 2 ^ wider == page / 2 ^ wider) ≡ true)
    (λ le. is_same (own / 2 ^ own_width) (page / 2 ^ own_width)
    (sym it.second ∙ above_more it.common page width own_width (leb-true width own_width le) it.first))
    (λ over. is_same (own / 2 ^ width) (page / 2 ^ width)
    (sym (above_more it.common own own_width width (grind (arith, over)) it.second) ∙ it.first))

pub meet_in_pages : (page width own own_width : ℕ) →
    (meets page width own own_width ≡ true → HaveCommonPage page width own own_width)
    × (HaveCommonPage page width own own_width → meets page width own own_width ≡ true)
meet_in_pages page width own own_width = (common page width own own_width, met page width own own_width)
