-- The shelves on which the entries stand, by their tags.
use Rattle.std.specs.Prelude.{ℕ, ◌+◌, ◌*◌, ◌/◌, ◌%◌, ◌^◌, ◌<◌, ◌≤◌, ◌≡◌, ◌⊎◌, Bool, false, List, [], ◌∷◌, filter, flat_map, length, slice_get, Some, vec_capacity, vec_items, vec_len}
use Rattle.std.specs.Global.{Vec}
use Rattle.iom_choices.specs.Systems.{IsAmong}
use Rattle.iom_every.specs.declared.entry.Entry.{Entry}
use Rattle.iom_held.specs.Kept.{AreSpared, HasNoneTwice, entries_in, may_lend}
use Rattle.iom_held.specs.Tags.{tag_of}
use Rattle.iom_held.specs.declared.kept.Kept.{Kept}
use Rattle.iom_held.specs.declared.tags.Tag.{Tag}

abbrev pub Shelf : Type 0
Shelf = Vec Kept

-- the number of a tag's shelf, of so many
unfoldable pub slot_of : ℕ → Tag → ℕ
slot_of count tag = (tag.part * 11 + tag.kind) * 11400714819323198485 % 2 ^ 64 / 2 ^ 32 % count

abbrev pub entries_on : List Shelf → List Kept
entries_on shelves = flat_map vec_items shelves

-- those from which what is made outlasts the next fence
abbrev pub lenders_on : Shelf → List Kept
lenders_on shelf = filter may_lend shelf.items

-- each entry stands on the shelf of its tag
abbrev pub StandInPlace : List Shelf → Type 0
StandInPlace shelves = (i : ℕ) (shelf : Shelf) (kept : Kept) → slice_get shelves i ≡ Some shelf → IsAmong shelf.items kept → slot_of (length shelves) (tag_of kept.entry) ≡ i

-- Each entry stands in its place, and once. None is named by a command, unless the note says that one may be.
pub record AreSound (named : Bool) (shelves : List Shelf) : Type 0 where
  pub in_place : StandInPlace shelves
  pub once : HasNoneTwice (entries_in (entries_on shelves))
  pub spared : named ≡ false → AreSpared (entries_on shelves)

-- an entry is on its shelf, or there is room for so many more
abbrev pub HasRoom : List Shelf → Entry → ℕ → Type 0
HasRoom shelves entry more = (shelf : Shelf) → slice_get shelves (slot_of (length shelves) (tag_of entry)) ≡ Some shelf →
    IsAmong (entries_in shelf.items) entry ⊎ (vec_len shelf + more ≤ vec_capacity shelf)

-- There is room for the first entries of a list, of which the last ones are put in first.
abbrev pub HaveRoom : List Shelf → List Entry → ℕ → Type 0
HaveRoom shelves entries count = (j : ℕ) (entry : Entry) (more : ℕ) → j + more ≡ count → 0 < more → slice_get entries j ≡ Some entry → HasRoom shelves entry more

-- each shelf has the entries that it had, and at least as much room
abbrev pub HaveGrown : List Shelf → List Shelf → Type 0
HaveGrown [] [] = Unit {0}
HaveGrown [] (new ∷ after) = ⊥
HaveGrown (old ∷ before) [] = ⊥
HaveGrown (old ∷ before) (new ∷ after) =
    (new.items ≡ old.items) × (vec_len new ≡ vec_len old) × (vec_capacity old ≤ vec_capacity new) × HaveGrown before after
