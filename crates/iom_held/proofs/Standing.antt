-- Shelves on which each entry stands in its place: what is renewed on one, and where there is room.
use Rattle.std.proofs.Common.{◌≡◌, ◌∙◌, ◌⊎◌, ◌+◌, ◌-◌, ◌<◌, ◌≤◌, ◌++◌, ◌↔◌, ℕ, zero, suc, List, [], ◌∷◌, get_or, length, map, Some, arith, refl, sym, ap, subst, inl, inr}
use Rattle.std.specs.Prelude.{Option, None, true, IfSome, is_some, slice_get, slice_set, vec_capacity, vec_items, vec_len}
use Rattle.std.proofs.lemmas.Bool.{cases_eq}
use Rattle.std.proofs.lemmas.List.{length-set, map-append}
use Rattle.iom_choices.specs.Systems.{IsAmong}
use Rattle.iom_choices.proofs.Lists.{among-left, among-right, among_at, among_either}
use Rattle.iom_every.specs.declared.entry.Entry.{Entry}
use Rattle.iom_held.specs.Kept.{Renews, entries_in, entry_of}
use Rattle.iom_held.specs.Shelves.{HasRoom, HaveGrown, Shelf, StandInPlace, entries_on, slot_of}
use Rattle.iom_held.specs.Tags.{tag_of}
use Rattle.iom_held.specs.declared.kept.Kept.{Kept}
use Rattle.iom_held.specs.declared.tags.Tag.{Tag}
use Rattle.iom_held.proofs.Lists.{IsFrom, among_of, from_among}
use Rattle.iom_held.proofs.Places.{some_is}
use Rattle.iom_held.proofs.Within.{IsOn, among_shelf, on_shelf, renews_shelf}

pub set_cases : {X : Type 0} (xs : List X) (i k : ℕ) (y x : X) → slice_get (slice_set xs i y) k ≡ Some x → ((k ≡ i) × (x ≡ y)) ⊎ (slice_get xs k ≡ Some x)
set_cases [] i k y x is = absurd (cc)
set_cases (z ∷ xs) zero zero y x is = inl (refl, sym (some_is is))
set_cases (z ∷ xs) zero (suc k) y x is = inr is
set_cases (z ∷ xs) (suc i) zero y x is = inr is
set_cases (z ∷ xs) (suc i) (suc k) y x is = elim (set_cases xs i k y x is) [
  | inl at ↦ inl (ap (λ (n : ℕ). suc n) at.0, at.1)
  | inr old ↦ inr old
]

set_is : {X : Type 0} (xs : List X) (i : ℕ) (old y x : X) → slice_get xs i ≡ Some old → slice_get (slice_set xs i y) i ≡ Some x → x ≡ y
set_is [] i old y x read is = absurd (cc)
set_is (z ∷ xs) zero old y x read is = sym (some_is is)
set_is (z ∷ xs) (suc i) old y x read is = set_is xs i old y x read is

module _ (shelves : List Shelf) (i : ℕ) (before after : Shelf) (new : Kept) (read : slice_get shelves i ≡ Some before)
    (slot : i ≡ slot_of (length shelves) (tag_of new.entry)) (p : Renews entry_of (new ∷ []) before.items after.items) where
  pub renewed_in_place : StandInPlace shelves → StandInPlace (slice_set shelves i after)
  renewed_in_place place = λ k shelf kept is among.
      let goal : slot_of (length shelves) (tag_of kept.entry) ≡ k = elim (set_cases shelves i k after shelf is) [
        | inl at ↦ elim (p.all kept.entry (among_of entry_of after.items kept (subst (λ (own : Shelf). IsAmong own.items kept) at.1 among))) [
          | inl old ↦ let f : IsFrom entry_of before.items kept.entry = from_among entry_of before.items kept.entry old in
              subst (λ (entry : Entry). slot_of (length shelves) (tag_of entry) ≡ k) f.is (place i before f.thing read f.among ∙ sym at.0)
          | inr one ↦ elim one [
            | inl same ↦ subst (λ (entry : Entry). slot_of (length shelves) (tag_of entry) ≡ k) same (sym slot ∙ sym at.0)
            | inr none ↦ absurd none
          ]
        ]
        | inr old ↦ place k shelf kept old among
      ] in subst (λ (n : ℕ). slot_of n (tag_of kept.entry) ≡ k) (sym (length-set shelves i after)) goal

  pub renewed_on : StandInPlace shelves → Renews entry_of (new ∷ []) (entries_on shelves) (entries_on (slice_set shelves i after))
  renewed_on place = renews_shelf vec_items entry_of new shelves i before after read
      (λ k other is h. let f : IsFrom entry_of other.items new.entry = from_among entry_of other.items new.entry h in
      sym (place k other f.thing is f.among) ∙ (ap (λ (entry : Entry). slot_of (length shelves) (tag_of entry)) f.is ∙ sym slot)) p

  pub room_after : vec_len after ≤ vec_len before + 1 → vec_capacity before ≤ vec_capacity after →
      (other : Entry) (more : ℕ) → HasRoom shelves other (more + 1) → HasRoom (slice_set shelves i after) other more
  room_after len capacity other more room = λ shelf is.
      let own : slice_get (slice_set shelves i after) (slot_of (length shelves) (tag_of other)) ≡ Some shelf =
      subst (λ (n : ℕ). slice_get (slice_set shelves i after) (slot_of n (tag_of other)) ≡ Some shelf) (length-set shelves i after) is in
      elim (set_cases shelves i (slot_of (length shelves) (tag_of other)) after shelf own) [
        | inl at ↦ elim (room before (subst (λ (k : ℕ). slice_get shelves k ≡ Some before) (sym at.0) read)) [
          | inl held ↦ inl (subst (λ (own : Shelf). IsAmong (entries_in own.items) other) (sym at.1) (p.kept other (inl held)))
          | inr free ↦ inr (subst (λ (own : Shelf). vec_len own + more ≤ vec_capacity own) (sym at.1) (omega (arith, free, len, capacity)))
        ]
        | inr old ↦ elim (room shelf old) [
          | inl held ↦ inl held
          | inr free ↦ inr (omega (arith, free))
        ]
      ]

-- shelves that have grown hold the entries that they held
pub grown_same : (before after : List Shelf) → HaveGrown before after → entries_on after ≡ entries_on before
grown_same [] [] h = refl
grown_same [] (new ∷ after) h = absurd h
grown_same (old ∷ before) [] h = absurd h
grown_same (old ∷ before) (new ∷ after) h =
    ap (λ (xs : List Kept). xs ++ entries_on after) h.0 ∙ ap (λ (xs : List Kept). old.items ++ xs) (grown_same before after h.3)

pub grown_length : (before after : List Shelf) → HaveGrown before after → length after ≡ length before
grown_length [] [] h = refl
grown_length [] (new ∷ after) h = absurd h
grown_length (old ∷ before) [] h = absurd h
grown_length (old ∷ before) (new ∷ after) h = ap (λ (n : ℕ). suc n) (grown_length before after h.3)

record IsGrown (before : List Shelf) (k : ℕ) (new : Shelf) : Type 0 where
  old : Shelf
  is : slice_get before k ≡ Some old
  items : new.items ≡ old.items
  len : vec_len new ≡ vec_len old
  capacity : vec_capacity old ≤ vec_capacity new

grown_from : (before after : List Shelf) (k : ℕ) (new : Shelf) → HaveGrown before after → slice_get after k ≡ Some new → IsGrown before k new
grown_from [] [] k new h is = absurd (cc)
grown_from [] (own ∷ after) k new h is = absurd h
grown_from (old ∷ before) [] k new h is = absurd h
grown_from (old ∷ before) (own ∷ after) zero new h is =
    subst (IsGrown (old ∷ before) zero) (some_is is) (record { old = old; is = refl; items = h.0; len = h.1; capacity = h.2 })
grown_from (old ∷ before) (own ∷ after) (suc k) new h is =
    let g : IsGrown before k new = grown_from before after k new h.3 is in
    record { old = g.old; is = g.is; items = g.items; len = g.len; capacity = g.capacity }

pub grown_none : (shelves : List Shelf) → HaveGrown shelves shelves
grown_none [] = tt
grown_none (shelf ∷ shelves) = (refl, refl, omega arith, grown_none shelves)

pub grown_then : (a b c : List Shelf) → HaveGrown a b → HaveGrown b c → HaveGrown a c
grown_then [] [] [] h k = tt
grown_then [] [] (z ∷ c) h k = absurd k
grown_then [] (y ∷ b) c h k = absurd h
grown_then (x ∷ a) [] c h k = absurd h
grown_then (x ∷ a) (y ∷ b) [] h k = absurd k
grown_then (x ∷ a) (y ∷ b) (z ∷ c) h k = (k.0 ∙ h.0, k.1 ∙ h.1, omega (arith, h.2, k.2), grown_then a b c h.3 k.3)

pub grown_set : (shelves : List Shelf) (i : ℕ) (old new : Shelf) → slice_get shelves i ≡ Some old → new.items ≡ old.items → vec_len new ≡ vec_len old →
    vec_capacity old ≤ vec_capacity new → HaveGrown shelves (slice_set shelves i new)
grown_set [] i old new is items len capacity = absurd (cc)
grown_set (own ∷ shelves) zero old new is items len capacity =
    subst (λ (own : Shelf). HaveGrown (own ∷ shelves) (new ∷ shelves)) (sym (some_is is)) (items, len, capacity, grown_none shelves)
grown_set (own ∷ shelves) (suc i) old new is items len capacity = (refl, refl, omega arith, grown_set shelves i old new is items len capacity)

pub grown_in_place : (before after : List Shelf) → HaveGrown before after → StandInPlace before → StandInPlace after
grown_in_place before after h place = λ k new kept is among.
    let g : IsGrown before k new = grown_from before after k new h is in
    subst (λ (n : ℕ). slot_of n (tag_of kept.entry) ≡ k) (sym (grown_length before after h))
    (place k g.old kept g.is (subst (λ (xs : List Kept). IsAmong xs kept) g.items among))

pub grown_room : (before after : List Shelf) → HaveGrown before after → (entry : Entry) (more : ℕ) → HasRoom before entry more → HasRoom after entry more
grown_room before after h entry more room = λ new is.
    let g : IsGrown before (slot_of (length before) (tag_of entry)) new = grown_from before after (slot_of (length before) (tag_of entry)) new h
    (subst (λ (n : ℕ). slice_get after (slot_of n (tag_of entry)) ≡ Some new) (grown_length before after h) is) in
    elim (room g.old g.is) [
      | inl held ↦ inl (subst (λ (xs : List Kept). IsAmong (entries_in xs) entry) (sym g.items) held)
      | inr free ↦ inr (omega (arith, free, g.len, g.capacity))
    ]

-- room on its own shelf
pub room_on : (shelves : List Shelf) (i : ℕ) (old new : Shelf) (entry : Entry) (more : ℕ) → slice_get shelves i ≡ Some old → i ≡ slot_of (length shelves) (tag_of entry) →
    IsAmong (entries_in new.items) entry ⊎ (vec_len new + more ≤ vec_capacity new) → HasRoom (slice_set shelves i new) entry more
room_on shelves i old new entry more read slot free = λ shelf is.
    let own : slice_get (slice_set shelves i new) i ≡ Some shelf =
    subst (λ (k : ℕ). slice_get (slice_set shelves i new) k ≡ Some shelf) (ap (λ (n : ℕ). slot_of n (tag_of entry)) (length-set shelves i new) ∙ sym slot) is in
    let same : shelf ≡ new = set_is shelves i old new shelf read own in
    subst (λ (own : Shelf). IsAmong (entries_in own.items) entry ⊎ (vec_len own + more ≤ vec_capacity own)) (sym same) free

-- an entry that was found
pub found_among : {X : Type 0} (xs : List X) (x : X) (place : Option ℕ) → true ≡ is_some place → IfSome place (λ i. slice_get xs i ≡ Some x) → IsAmong xs x
found_among xs x None some at = absurd (cc)
found_among xs x (Some i) some at = among_at xs i x at

-- shelves on which nothing stands
pub empty_in_place : (shelves : List Shelf) → entries_on shelves ≡ [] → StandInPlace shelves
empty_in_place shelves none = λ k shelf kept is among.
    absurd (subst (λ (xs : List Kept). IsAmong xs kept) none (among_shelf vec_items shelves k shelf kept is among))

first_alone : (shelf own : Shelf) (k : ℕ) → slice_get (shelf ∷ []) k ≡ Some own → 0 ≡ k
first_alone shelf own zero is = refl
first_alone shelf own (suc k) is = absurd (cc)

slot_of_one : (tag : Tag) → slot_of 1 tag ≡ 0
unfolding slot_of
slot_of_one tag = omega arith

-- one shelf has all
pub one_in_place : (shelf : Shelf) → StandInPlace (shelf ∷ [])
one_in_place shelf = λ k own kept is among. slot_of_one (tag_of kept.entry) ∙ first_alone shelf own k is

-- what is on a shelf, and what has its tag
pub on_its_shelf : (shelves : List Shelf) (i : ℕ) (shelf : Shelf) (kept : Kept) → StandInPlace shelves → slice_get shelves i ≡ Some shelf →
    i ≡ slot_of (length shelves) (tag_of kept.entry) → IsAmong (entries_on shelves) kept → IsAmong shelf.items kept
on_its_shelf shelves i shelf kept place read slot h =
    let k : IsOn vec_items shelves kept = on_shelf vec_items shelves kept h in
    let same : k.place ≡ i = sym (place k.place k.shelf kept k.is k.among) ∙ sym slot in
    subst (λ (own : Shelf). IsAmong own.items kept) (some_is (sym k.is ∙ (ap (slice_get shelves) same ∙ read))) k.among

-- the last of some is put in before the others
pub last_first : {A B : Type 0} (f : A → B) (xs ys : List A) (x : A) → ys ≡ xs ++ x ∷ [] → (n : B) → IsAmong (f x ∷ map f xs) n ↔ IsAmong (map f ys) n
last_first {A} {B} f xs ys x is n =
    let keys : map f ys ≡ map f xs ++ f x ∷ [] = ap (map f) is ∙ map-append f xs (x ∷ []) in (
      λ h. subst (λ (zs : List B). IsAmong zs n) (sym keys) (elim h [
        | inl same ↦ among-right (map f xs) (f x ∷ []) n (inl same)
        | inr rest ↦ among-left (map f xs) (f x ∷ []) n rest
      ]),
      λ h. elim (among_either (map f xs) (f x ∷ []) n (subst (λ (zs : List B). IsAmong zs n) keys h)) [
        | inl rest ↦ inr rest
        | inr last ↦ elim last [
          | inl same ↦ inl same
          | inr none ↦ absurd none
        ]
      ],
    )

-- room for one more entry of a list
pub room_next : (shelves : List Shelf) (entries : List Entry) (i count : ℕ) (own : Entry) → slice_get entries i ≡ Some own → HasRoom shelves own (count - i) → i < count →
    ((j : ℕ) (entry : Entry) (more : ℕ) → j + more ≡ count → j < i → slice_get entries j ≡ Some entry → HasRoom shelves entry more) →
    (j : ℕ) (entry : Entry) (more : ℕ) → j + more ≡ count → j < i + 1 → slice_get entries j ≡ Some entry → HasRoom shelves entry more
room_next shelves entries i count own read room inside before j entry more is below at = elim (cases_eq j i) [
  | inl same ↦ let rest : count - i ≡ more = omega (arith, same, is, inside) in
      subst (λ (other : Entry). HasRoom shelves other more)
      (some_is (sym read ∙ subst (λ (k : ℕ). slice_get entries k ≡ Some entry) same at))
      (subst (HasRoom shelves own) rest room)
  | inr other ↦ before j entry more is (omega (arith, other, below)) at
]

-- what stands at the place where an entry was found
pub found_entry : (xs : List Kept) (i : ℕ) (kept : Kept) (entry : Entry) → slice_get (entries_in xs) i ≡ Some entry → kept ≡ get_or xs i kept → kept.entry ≡ entry
found_entry [] i kept entry at is = absurd (cc)
found_entry (x ∷ xs) zero kept entry at is = ap entry_of is ∙ some_is at
found_entry (x ∷ xs) (suc i) kept entry at is = found_entry xs i kept entry at is
