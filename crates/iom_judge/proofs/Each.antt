-- What holds of each of a list, one by one.
use Rattle.std.proofs.Common.{◌≡◌, ◌∙◌, ◌++◌, ◌+◌, ◌<◌, ◌≤◌, ℕ, zero, suc, Bool, true, false, List, [], ◌∷◌, drop, length, sym, ap, subst, inl, inr, arith}
use Rattle.std.proofs.lemmas.List.{drop_all, drop_more}
use Rattle.std.specs.List.{AllByRecursion}
use Rattle.std.specs.Prelude.{flat_map, get_or, vec_items}
use Rattle.iom_choices.specs.Systems.{IsAmong}
use Rattle.iom_choices.proofs.Lists.{among-left, among-right, among_either, each_of}
use Rattle.iom_held.specs.Kept.{HasNoneTwice}
use Rattle.iom_held.specs.Shelves.{Shelf}
use Rattle.iom_held.specs.declared.kept.Kept.{Kept}

pub each_at : {X : Type 0} (P : X → Type 0) (xs : List X) (x : X) → AllByRecursion P xs → IsAmong xs x → P x
each_at P [] x each h = absurd h
each_at P (y ∷ xs) x each (inl same) = subst P same each.0
each_at P (y ∷ xs) x each (inr h) = each_at P xs x each.1 h

-- those to come hold, so all do
pub all_next : {X : Type 0} (P : X → Type 0) (all : List X) (i : ℕ) (x : X) → i < length all → x ≡ get_or all i x → (AllByRecursion P (drop i all) → AllByRecursion P all) → P x →
    AllByRecursion P (drop (i + 1) all) → AllByRecursion P all
all_next {X} P all i x inside is invariant here rest =
    let this : drop i all ≡ x ∷ drop (i + 1) all = drop_more all i x inside ∙ ap (λ (y : X). y ∷ drop (i + 1) all) (sym is) in
    invariant (subst (AllByRecursion P) (sym this) (here, rest))

pub all_end : {X : Type 0} (P : X → Type 0) (all : List X) (i : ℕ) → length all ≤ i → (AllByRecursion P (drop i all) → AllByRecursion P all) → AllByRecursion P all
all_end P all i end invariant = invariant (subst (AllByRecursion P) (sym (drop_all i all end)) tt)

-- one doesn't, so not all do
pub all_not : {X : Type 0} (P : X → Type 0) (all : List X) (i : ℕ) (x : X) → i < length all → x ≡ get_or all i x → (P x → ⊥) → AllByRecursion P all → ⊥
all_not {X} P [] i x inside is none each = absurd (omega (arith, inside))
all_not {X} P (y ∷ all) zero x inside is none each = none (subst P (sym is) each.0)
all_not {X} P (y ∷ all) (suc i) x inside is none each = all_not P all i x (omega (arith, inside)) is none each.1

pub among_item : {X : Type 0} (all : List X) (i : ℕ) (x : X) → i < length all → x ≡ get_or all i x → IsAmong all x
among_item [] i x inside is = absurd (omega (arith, inside))
among_item (y ∷ all) zero x inside is = inl (sym is)
among_item (y ∷ all) (suc i) x inside is = inr (among_item all i x (omega (arith, inside)) is)

pub false_not : (b : Bool) → b ≡ false → b ≡ true → ⊥
false_not true off on = absurd (cc)
false_not false off on = absurd (cc)

-- on shelves
pub on_shelves : (P : Kept → Type 0) (shelves : List Shelf) → ((kept : Kept) → IsAmong (flat_map vec_items shelves) kept → P kept) → AllByRecursion (λ (shelf : Shelf). AllByRecursion P shelf.items) shelves
on_shelves P [] each = tt
on_shelves P (shelf ∷ shelves) each = (
  each_of P shelf.items (λ kept h. each kept (among-left shelf.items (flat_map vec_items shelves) kept h)),
  on_shelves P shelves (λ kept h. each kept (among-right shelf.items (flat_map vec_items shelves) kept h)),
)

pub from_shelves : (P : Kept → Type 0) (shelves : List Shelf) → AllByRecursion (λ (shelf : Shelf). AllByRecursion P shelf.items) shelves → (kept : Kept) → IsAmong (flat_map vec_items shelves) kept → P kept
from_shelves P [] each kept h = absurd h
from_shelves P (shelf ∷ shelves) each kept h = elim (among_either shelf.items (flat_map vec_items shelves) kept h) [
  | inl here ↦ each_at P shelf.items kept each.0 here
  | inr later ↦ from_shelves P shelves each.1 kept later
]

pub none_twice_push : {X : Type 0} (all : List X) (x : X) → HasNoneTwice all → (IsAmong all x → ⊥) → HasNoneTwice (all ++ x ∷ [])
none_twice_push [] x once none = ((λ h. h), tt)
none_twice_push (y ∷ all) x once none = (
  λ h. elim (among_either all (x ∷ []) y h) [
    | inl here ↦ once.0 here
    | inr own ↦ elim own [
      | inl same ↦ none (inl (sym same))
      | inr nowhere ↦ absurd nowhere
    ]
  ],
  none_twice_push all x once.1 (λ h. none (inr h)),
)
