-- Shelves with the same entries, or with a part of them, hold these, and in place.
use Rattle.std.proofs.Common.{◌≡◌, ◌∙◌, ◌++◌, ◌+◌, ◌<◌, ℕ, zero, suc, List, [], ◌∷◌, length, map, Option, Some, None, get_or, take, refl, sym, ap, subst, vec_items}
use Rattle.std.specs.Prelude.{filter, slice_get}
use Rattle.std.specs.Option.{option_map}
use Rattle.std.proofs.lemmas.List.{map-append, take_more}
use Rattle.std.proofs.lemmas.List.Elements.{filter-append}
use Rattle.iom_choices.specs.Systems.{IsAmong}
use Rattle.iom_choices.proofs.Lists.{passed}
use Rattle.iom_held.specs.Kept.{may_lend}
use Rattle.iom_held.specs.Shelves.{Shelf, StandInPlace, entries_on, lenders_on, slot_of}
use Rattle.iom_held.specs.Tags.{tag_of}
use Rattle.iom_held.specs.declared.kept.Kept.{Kept}

abbrev joined : List (List Kept) → List Kept
joined [] = []
joined (some ∷ more) = some ++ joined more

by_items : (shelves : List Shelf) → entries_on shelves ≡ joined (map vec_items shelves)
by_items [] = refl
by_items (shelf ∷ shelves) = ap (λ (rest : List Kept). shelf.items ++ rest) (by_items shelves)

pub entries_same : (copies shelves : List Shelf) → map vec_items copies ≡ map vec_items shelves → entries_on copies ≡ entries_on shelves
entries_same copies shelves same = by_items copies ∙ ap joined same ∙ sym (by_items shelves)

count_items : (shelves : List Shelf) → length (map vec_items shelves) ≡ length shelves
count_items [] = refl
count_items (shelf ∷ shelves) = ap suc (count_items shelves)

items_at : (shelves : List Shelf) (i : ℕ) → slice_get (map vec_items shelves) i ≡ option_map vec_items (slice_get shelves i)
items_at [] i = refl
items_at (shelf ∷ shelves) zero = refl
items_at (shelf ∷ shelves) (suc i) = items_at shelves i

-- what is left of each shelf
module _ (left : List Kept → List Kept) (within : (items : List Kept) (kept : Kept) → IsAmong (left items) kept → IsAmong items kept) where
  abbrev pub left_on : Shelf → List Kept
  left_on shelf = left shelf.items

  left_count : (shelves : List Shelf) → length (map left_on shelves) ≡ length shelves
  left_count [] = refl
  left_count (shelf ∷ shelves) = ap suc (left_count shelves)

  left_at : (shelves : List Shelf) (i : ℕ) → slice_get (map left_on shelves) i ≡ option_map left_on (slice_get shelves i)
  left_at [] i = refl
  left_at (shelf ∷ shelves) zero = refl
  left_at (shelf ∷ shelves) (suc i) = left_at shelves i

  record HasShelf (shelves : List Shelf) (i : ℕ) (items : List Kept) : Type 0 where
    shelf : Shelf
    there : slice_get shelves i ≡ Some shelf
    items_are : left_on shelf ≡ items

  shelf_of : (shelves : List Shelf) (i : ℕ) (items : List Kept) → option_map left_on (slice_get shelves i) ≡ Some items → HasShelf shelves i items
  shelf_of shelves i items is =
      let Goal : Option Shelf → Type 0 = λ o. slice_get shelves i ≡ o → option_map left_on o ≡ Some items → HasShelf shelves i items in
      let by_place : (o : Option Shelf) → Goal o = λ o. elim o as Goal [
        | None ↦ λ there is. absurd (cc)
        | Some shelf ↦ λ there is. record { shelf = shelf; there = there; items_are = search is }
      ] in by_place (slice_get shelves i) refl is

  pub left_in_place : (copies shelves : List Shelf) → map vec_items copies ≡ map left_on shelves → StandInPlace shelves → StandInPlace copies
  left_in_place copies shelves same stand i copy kept there among =
      let count : length copies ≡ length shelves = sym (count_items copies) ∙ ap (λ (all : List (List Kept)). length all) same ∙ left_count shelves in
      let h : HasShelf shelves i copy.items =
      shelf_of shelves i copy.items (sym (left_at shelves i) ∙ ap (λ (all : List (List Kept)). slice_get all i) (sym same) ∙ items_at copies i ∙ ap (option_map vec_items) there) in
      ap (λ (n : ℕ). slot_of n (tag_of kept.entry)) count
      ∙ stand i h.shelf kept h.there (within h.shelf.items kept (subst (λ (items : List Kept). IsAmong items kept) (sym h.items_are) among))

pub in_place_same : (copies shelves : List Shelf) → map vec_items copies ≡ map vec_items shelves → StandInPlace shelves → StandInPlace copies
in_place_same copies shelves same stand = left_in_place (λ (items : List Kept). items) (λ items kept h. h) copies shelves same stand

-- those that may lend
lenders_of : (shelves : List Shelf) → joined (map lenders_on shelves) ≡ filter may_lend (entries_on shelves)
lenders_of [] = refl
lenders_of (shelf ∷ shelves) =
    ap (λ (rest : List Kept). filter may_lend shelf.items ++ rest) (lenders_of shelves) ∙ sym (filter-append may_lend shelf.items (entries_on shelves))

pub lenders_are : (copies shelves : List Shelf) → map vec_items copies ≡ map lenders_on shelves → entries_on copies ≡ filter may_lend (entries_on shelves)
lenders_are copies shelves same = by_items copies ∙ ap joined same ∙ lenders_of shelves

pub lenders_in_place : (copies shelves : List Shelf) → map vec_items copies ≡ map lenders_on shelves → StandInPlace shelves → StandInPlace copies
lenders_in_place copies shelves same stand =
    left_in_place (filter may_lend) (λ items kept h. (passed may_lend items kept h).among) copies shelves same stand

-- one shelf more
pub lenders_more : (copies : List (List Kept)) (shelves : List Shelf) (i : ℕ) (shelf : Shelf) → i < length shelves → shelf ≡ get_or shelves i shelf → copies ≡ map lenders_on (take i shelves) →
    copies ++ lenders_on shelf ∷ [] ≡ map lenders_on (take (i + 1) shelves)
lenders_more copies shelves i shelf inside is so_far =
    ap (λ (xs : List (List Kept)). xs ++ lenders_on shelf ∷ []) so_far
    ∙ sym (map-append lenders_on (take i shelves) (shelf ∷ []))
    ∙ ap (map lenders_on) (sym (take_more shelves i shelf inside ∙ ap (λ (s : Shelf). take i shelves ++ s ∷ []) (sym is)))
