-- The lowest 0 of a page's number is the one that names its range.
use Rattle.std.proofs.Common.{◌≡◌, ℕ, ◌+◌, ◌*◌, ◌<◌, ◌^◌, true, ap, ◌∙◌, inl, inr, arith}
use Rattle.std.specs.Int.{trailing_ones, w64}
use Rattle.std.proofs.lemmas.Bool.{cases_lt}
use Rattle.std.proofs.lemmas.Nat.{pow-add}
use Rattle.std.proofs.lemmas.Nat.Bits.{bit_at-trailing_ones}
use Rattle.iom_cache.specs.Drops.{range_width}
use Rattle.iom_cache.specs.Ranges.{NamesRange}

-- there is one lowest 0
one_lowest : (page low other : ℕ) → NamesRange page low → NamesRange page other → other ≡ low
one_lowest page low other one two = elim (cases_lt low other) as (λ _. other ≡ low) [
  | inl less ↦ absurd (omega (arith, one.zero, two.ones low less))
  | inr above ↦ elim (cases_lt other low) as (λ _. other ≡ low) [
    | inl less ↦ absurd (omega (arith, two.zero, one.ones other less))
    | inr over ↦ omega (arith, above, over)
  ]
]

pub has_named_pages : (page low : ℕ) → page < 2 ^ 52 → NamesRange page low → 2 ^ range_width true page ≡ 2 * 2 ^ low
has_named_pages page low fits names =
    let found = bit_at-trailing_ones w64 page (omega (arith, fits)) in
    let lowest : trailing_ones w64 page ≡ low = one_lowest page low (trailing_ones w64 page) names (record { zero = found.1; ones = found.2 }) in
    ap (λ n. 2 ^ (n + 1)) lowest ∙ pow-add 2 low 1 ∙ omega arith
