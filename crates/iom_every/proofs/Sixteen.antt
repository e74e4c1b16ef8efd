-- A leaf maps as many pages for a walk, an invalidation and an entry that may be kept.
use Rattle.std.proofs.Common.{◌≡◌, ℕ, ◌*◌, ◌%◌, ◌^◌, ◌==◌, ◌&&◌, ◌||◌, ◌∙◌, Bool, true, false, not, List, [], ◌∷◌, length, refl, sym, ap, arith}
use Rattle.std.proofs.lemmas.Bool.{and_parts, eqb-true, or_parts}
use Rattle.iom_bits.specs.Bits.{field_of}
use Rattle.iom_bits.specs.Features.{Features, has_svnapot}
use Rattle.iom_nested.specs.declared.translation.Hit.{Hit}
use Rattle.iom_walk.specs.Verdict.{has_no_access, is_napot, is_readable, is_reserved, is_writable, may_be_napot, may_be_typed, pbmt, ppn}
use Rattle.iom_walk.specs.Outcome.{pages_of}
use Rattle.iom_every.specs.Entries.{Held, has_reserved_form, sixteen_of, split}
use Rattle.iom_every.specs.Widths.{HasOneWidth, IsBy}

allowed : (napot may : Bool) → napot ≡ true → (napot && not may) ≡ false → may ≡ true
allowed true true is none = refl
allowed true false is none = absurd (cc none)
allowed false may is none = absurd (cc is)

once : (n : ℕ) → 1 * n ≡ n
once n = omega arith

lowest_of : (features : Features) (level word : ℕ) → is_reserved features level word ≡ false → is_napot word ≡ true → level ≡ 0
unfolding is_reserved
lowest_of features level word plain is =
    let rows = or_parts
    (not (field_of word 54 7 == 0) || is_napot word && not (may_be_napot features level word))
    (not (pbmt word == 0) && not (may_be_typed features word)) plain in
    let none = or_parts (not (field_of word 54 7 == 0)) (is_napot word && not (may_be_napot features level word)) rows.0 in
    let may = and_parts
    (has_svnapot features && not (has_no_access word) && level == 0) (ppn word % 2 ^ 4 == 8)
    (allowed (is_napot word) (may_be_napot features level word) is none.1) in
    eqb-true level 0 (and_parts (has_svnapot features && not (has_no_access word)) (level == 0) may.0).1

by_napot : (features : Features) (held : Held) (hit : Hit) → has_reserved_form features held.level held.word ≡ false → IsBy hit held.level held.word →
    (napot : Bool) → is_napot held.word ≡ napot → HasOneWidth features held hit
by_napot features held hit formed by true is =
    let plain : is_reserved features held.level held.word ≡ false =
    (or_parts (not (is_readable held.word) && is_writable held.word) (is_reserved features held.level held.word) formed).1 in
    let low : held.level ≡ 0 = lowest_of features held.level held.word plain is in
    let sixteen : split features held ≡ sixteen_of held = rw (is, formed) refl in
    let wide : pages_of held.level held.word ≡ 16 = rw (is) refl in
    record {
      kept = ap (λ (all : List Held). length all * 2 ^ (9 * held.level)) sixteen ∙ ap (λ (level : ℕ). 16 * 2 ^ (9 * level)) low ∙ sym wide;
      dropped = rw (by.same_napot, is) refl;
    }
by_napot features held hit plain by false is =
    let one : split features held ≡ held ∷ [] = rw (is) refl in
    record {
      kept = ap (λ (all : List Held). length all * 2 ^ (9 * held.level)) one ∙ once (2 ^ (9 * held.level)) ∙ sym (rw (is) refl);
      dropped = rw (by.same_napot, by.same_level, is) refl;
    }

pub widths_agree : (features : Features) (held : Held) (hit : Hit) → has_reserved_form features held.level held.word ≡ false → IsBy hit held.level held.word →
    HasOneWidth features held hit
widths_agree features held hit plain by = by_napot features held hit plain by (is_napot held.word) refl
