-- What holds of each of a list, found one by one.
use Rattle.std.proofs.Common.{◌≡◌, ◌∙◌, ◌++◌, ◌+◌, ◌<◌, ◌≤◌, ℕ, Bool, true, false, List, ◌∷◌, drop, get_or, length, sym, ap, subst}
use Rattle.std.specs.List.{AllByRecursion}
use Rattle.std.proofs.lemmas.List.{drop_all, drop_more}
use Rattle.iom_choices.proofs.Lists.{each_append}
use Rattle.iom_held.specs.Shelves.{Shelf, entries_on}
use Rattle.iom_held.specs.declared.kept.Kept.{Kept}

-- if those to come are so, all are
pub each_next : {X : Type 0} (P : X → Type 0) (all : List X) (i : ℕ) (x : X) → i < length all → x ≡ get_or all i x → (AllByRecursion P (drop i all) → AllByRecursion P all) → P x →
    AllByRecursion P (drop (i + 1) all) → AllByRecursion P all
each_next {X} P all i x inside is so_far here rest =
    let this : drop i all ≡ x ∷ drop (i + 1) all = drop_more all i x inside ∙ ap (λ (y : X). y ∷ drop (i + 1) all) (sym is) in
    so_far (subst (AllByRecursion P) (sym this) (here, rest))

pub each_end : {X : Type 0} (P : X → Type 0) (all : List X) (i : ℕ) → length all ≤ i → (AllByRecursion P (drop i all) → AllByRecursion P all) → AllByRecursion P all
each_end P all i end so_far = so_far (subst (AllByRecursion P) (sym (drop_all i all end)) tt)

pub shelf_next : (P : Kept → Type 0) (shelves : List Shelf) (i : ℕ) (shelf : Shelf) → i < length shelves → shelf ≡ get_or shelves i shelf →
    (AllByRecursion P (entries_on (drop i shelves)) → AllByRecursion P (entries_on shelves)) → AllByRecursion P shelf.items →
    AllByRecursion P (entries_on (drop (i + 1) shelves)) → AllByRecursion P (entries_on shelves)
shelf_next P shelves i shelf inside is so_far here rest =
    let this : entries_on (drop i shelves) ≡ shelf.items ++ entries_on (drop (i + 1) shelves) =
    ap entries_on (drop_more shelves i shelf inside ∙ ap (λ (s : Shelf). s ∷ drop (i + 1) shelves) (sym is)) in
    so_far (subst (AllByRecursion P) (sym this) (each_append P shelf.items (entries_on (drop (i + 1) shelves)) here rest))

pub shelf_end : (P : Kept → Type 0) (shelves : List Shelf) (i : ℕ) → length shelves ≤ i →
    (AllByRecursion P (entries_on (drop i shelves)) → AllByRecursion P (entries_on shelves)) → AllByRecursion P (entries_on shelves)
shelf_end P shelves i end so_far = so_far (subst (λ (left : List Shelf). AllByRecursion P (entries_on left)) (sym (drop_all i shelves end)) tt)

pub false_not : (b : Bool) → b ≡ false → b ≡ true → ⊥
false_not true off on = absurd (cc)
false_not false off on = absurd (cc)
