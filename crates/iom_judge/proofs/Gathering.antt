-- One more thing in its turn.
use Rattle.std.proofs.Common.{◌≡◌, ◌++◌, ◌+◌, ℕ, zero, suc, List, [], ◌∷◌, drop, refl, sym, subst, arith, append_assoc, append-nil, length, ◌<◌, ◌≤◌}
use Rattle.std.proofs.lemmas.List.{drop_all}
use Rattle.std.specs.Prelude.{get_or}
use Rattle.iom_judge.specs.Gathered.{Gathered}

gathered_suc : {C : Type 0} (F : C → List C → Type 0) (all : List C) (i : ℕ) (one : C) (added rest : List C) → i < length all → one ≡ get_or all i one → F one added →
    Gathered F (drop (suc i) all) rest → Gathered F (drop i all) (added ++ rest)
gathered_suc F [] i one added rest within is f h = absurd (omega (arith, within))
gathered_suc {C} F (x ∷ all) zero one added rest within is f h = (added, rest, refl, subst (λ (o : C). F o added) is f, h)
gathered_suc F (x ∷ all) (suc i) one added rest within is f h =
    let inside : i < length all = omega (arith, within) in gathered_suc F all i one added rest inside is f h

pub gathered_at : {C : Type 0} (F : C → List C → Type 0) (all : List C) (i : ℕ) (one : C) (added rest : List C) → i < length all → one ≡ get_or all i one → F one added →
    Gathered F (drop (i + 1) all) rest → Gathered F (drop i all) (added ++ rest)
gathered_at F all i one added rest within is f h =
    let same : i + 1 ≡ suc i = omega arith in
    gathered_suc F all i one added rest within is f (subst (λ (n : ℕ). Gathered F (drop n all) rest) same h)

pub gathered_next : {C : Type 0} (F : C → List C → Type 0) (whole all : List C) (i : ℕ) (one : C) (before after added : List C) →
    ((rest : List C) → Gathered F (drop i all) rest → Gathered F whole (before ++ rest)) → i < length all → one ≡ get_or all i one → after ≡ before ++ added → F one added →
    (rest : List C) → Gathered F (drop (i + 1) all) rest → Gathered F whole (after ++ rest)
gathered_next {C} F whole all i one before after added invariant within is made f rest h =
    let k : Gathered F whole (before ++ (added ++ rest)) = invariant (added ++ rest) (gathered_at F all i one added rest within is f h) in
    subst (λ (l : List C). Gathered F whole (l ++ rest)) (sym made) (subst (Gathered F whole) (sym (append_assoc before added rest)) k)

pub gathered_end : {C : Type 0} (F : C → List C → Type 0) (whole all : List C) (i : ℕ) (before : List C) →
    ((rest : List C) → Gathered F (drop i all) rest → Gathered F whole (before ++ rest)) → length all ≤ i → Gathered F whole before
gathered_end {C} F whole all i before invariant end =
    let none : Gathered F (drop i all) [] = subst (λ (l : List C). Gathered F l []) (sym (drop_all i all end)) refl in
    subst (Gathered F whole) (append-nil before) (invariant [] none)
