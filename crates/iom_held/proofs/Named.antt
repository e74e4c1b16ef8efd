-- Entries that name memory, counted one after the other.
use Rattle.std.proofs.Common.{◌≡◌, ◌∙◌, ◌+◌, ◌-◌, ◌^◌, ◌<◌, ◌≤◌, ◌++◌, ℕ, true, false, List, [], ◌∷◌, Some, length, length-append, min, nat_lt, if◌then◌else◌, refl, sym, ap, subst, inl, inr, arith}
use Rattle.std.specs.Prelude.{get_or, take, vec_items}
use Rattle.std.proofs.lemmas.Bool.{cond_both, ltb-false, ltb-true}
use Rattle.std.proofs.lemmas.Grind.{flat_map-append}
use Rattle.std.proofs.lemmas.List.{append-nil, append_assoc, take_more}
use Rattle.std.proofs.lemmas.List.Elements.{filter-append}
use Rattle.iom_choices.specs.Systems.{IsAmong}
use Rattle.iom_choices.proofs.Lists.{among-left, among-right, among_either}
use Rattle.iom_every.specs.Frames.{names_memory}
use Rattle.iom_held.specs.Naming.{AreTold, IsOldest, naming}
use Rattle.iom_held.specs.Shelves.{Shelf, entries_on}
use Rattle.iom_held.specs.declared.kept.Kept.{Kept}
use Rattle.iom_held.specs.declared.naming.Naming.{Naming}

-- the first of two, unless the second has a smaller number
abbrev pub older : Kept → Kept → Kept
older first other = if nat_lt other.number first.number then other else first

-- the first alone
pub one_told : (kept : Kept) (all : List Kept) → all ≡ [] → AreTold (all ++ kept ∷ []) (Some (record { count = 1; first = kept }))
one_told kept all none =
    subst (λ (all : List Kept). AreTold (all ++ kept ∷ []) (Some (record { count = 1; first = kept }))) (sym none)
    (refl, record { among = inl refl; oldest = λ other h. only kept other h }) where
      only : (kept other : Kept) → IsAmong (kept ∷ []) other → kept.number ≤ other.number
      only kept other (inl same) = omega (arith, ap (λ (k : Kept). k.number) same)
      only kept other (inr none) = absurd none

oldest_with : (first kept : Kept) (all : List Kept) → IsOldest all first → IsOldest (all ++ kept ∷ []) (older first kept)
oldest_with first kept all h = cond_both (nat_lt kept.number first.number) kept first (IsOldest (all ++ kept ∷ []))
    (λ less. record { among = among-right all (kept ∷ []) kept (inl refl); oldest = λ other k. newer other (omega (arith, ltb-true _ _ less)) refl k })
    (λ no. record { among = among-left all (kept ∷ []) first h.among; oldest = λ other k. older_or other k (omega (arith, ltb-false _ _ no)) }) where
      newer : (other : Kept) → kept.number ≤ first.number → kept ≡ kept → IsAmong (all ++ kept ∷ []) other → kept.number ≤ other.number
      newer other less _ k = elim (among_either all (kept ∷ []) other k) [
        | inl old ↦ omega (arith, h.oldest other old, less)
        | inr new ↦ elim new [
          | inl same ↦ omega (arith, ap (λ (k : Kept). k.number) same)
          | inr none ↦ absurd none
        ]
      ]

      older_or : (other : Kept) → IsAmong (all ++ kept ∷ []) other → first.number ≤ kept.number → first.number ≤ other.number
      older_or other k late = elim (among_either all (kept ∷ []) other k) [
        | inl old ↦ h.oldest other old
        | inr new ↦ elim new [
          | inl same ↦ omega (arith, late, ap (λ (k : Kept). k.number) same)
          | inr none ↦ absurd none
        ]
      ]

-- one more
pub more_told : (before : Naming) (kept first : Kept) (count : ℕ) (all : List Kept) → count ≡ min (before.count + 1) (2 ^ 64 - 1) → first ≡ older before.first kept →
    AreTold all (Some before) → AreTold (all ++ kept ∷ []) (Some (record { count = count; first = first }))
more_told before kept first count all is one told = (
  is ∙ (omega (arith, told.0, length-append all (kept ∷ []))),
  subst (IsOldest (all ++ kept ∷ [])) (sym one) (oldest_with before.first kept all told.1),
)

pub one_names : (addr len : ℕ) (kept : Kept) (all : List Kept) → names_memory addr len kept.entry ≡ true → all ++ kept ∷ [] ≡ all ++ naming addr len (kept ∷ [])
one_names addr len kept all is = rw (is) refl

pub none_names : (addr len : ℕ) (kept : Kept) (all : List Kept) → names_memory addr len kept.entry ≡ false → all ≡ all ++ naming addr len (kept ∷ [])
none_names addr len kept all off = rw (off) (sym (append-nil all))

-- of one more entry, and of one more shelf
pub naming_more : (addr len : ℕ) (kept : List Kept) (i : ℕ) (each : Kept) (all : List Kept) → i < length kept → each ≡ get_or kept i each →
    (all ++ naming addr len (take i kept)) ++ naming addr len (each ∷ []) ≡ all ++ naming addr len (take (i + 1) kept)
naming_more addr len kept i each all inside is =
    append_assoc all (naming addr len (take i kept)) (naming addr len (each ∷ []))
    ∙ ap (λ (xs : List Kept). all ++ xs) (sym (ap (naming addr len) (take_more kept i each inside ∙ ap (λ (k : Kept). take i kept ++ k ∷ []) (sym is))
    ∙ filter-append (λ (k : Kept). names_memory addr len k.entry) (take i kept) (each ∷ [])))

pub shelves_more : (addr len : ℕ) (shelves : List Shelf) (i : ℕ) (shelf : Shelf) → i < length shelves → shelf ≡ get_or shelves i shelf →
    naming addr len (entries_on (take i shelves)) ++ naming addr len shelf.items ≡ naming addr len (entries_on (take (i + 1) shelves))
shelves_more addr len shelves i shelf inside is =
    sym (filter-append (λ (k : Kept). names_memory addr len k.entry) (entries_on (take i shelves)) shelf.items)
    ∙ ap (naming addr len) (sym (ap entries_on (take_more shelves i shelf inside ∙ ap (λ (s : Shelf). take i shelves ++ s ∷ []) (sym is))
    ∙ flat_map-append vec_items (take i shelves) (shelf ∷ []) ∙ ap (λ (xs : List Kept). entries_on (take i shelves) ++ xs) (append-nil shelf.items)))
