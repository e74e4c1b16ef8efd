-- What is found in a cache after a step, by what was found before it and by what the step filled.
use Rattle.std.proofs.Common.{◌≡◌, ◌∙◌, ◌++◌, ◌==◌, ℕ, List, [], ◌∷◌, length, drop, Bool, true, false, Option, Some, None, Result, Ok, Err, if◌then◌else◌, refl, ap}
use Rattle.iom_cache.specs.Places.{filled_by, find, look, made_room}

-- nothing is found: nor is it behind the first place
find_behind : {K V : Type 0} (test : K → Bool) (place : Option (K × V)) (places : List (Option (K × V))) → find test (place ∷ places) ≡ None →
    find test places ≡ None
find_behind test None places none = none
find_behind {K} {V} test (Some entry) places none =
    let Goal : Bool → Type 0 = λ b. (if b then Some entry.1 else find test places) ≡ None → find test places ≡ None in
    let by_test : (b : Bool) → Goal b = λ b. elim b as Goal [
      | true ↦ λ here. absurd (cc)
      | false ↦ λ here. here
    ] in by_test (test entry.0) none

rest_none : {K V : Type 0} (test : K → Bool) (places : List (Option (K × V))) → find test places ≡ None → find test (drop 1 places) ≡ None
rest_none test [] none = refl
rest_none test (place ∷ places) none = find_behind test place places none

room_none : {K V : Type 0} (test : K → Bool) (room : ℕ) (places : List (Option (K × V))) → find test places ≡ None →
    find test (made_room room places) ≡ None
room_none test room places none = elim (length places == room) as (λ b. find test (if b then drop 1 places else places) ≡ None) [
  | true ↦ rest_none test places none
  | false ↦ none
]

-- nothing is found: one place more is found where its key is the one looked for
found_last : {K V : Type 0} (test : K → Bool) (places : List (Option (K × V))) (entry : K × V) → find test places ≡ None →
    find test (places ++ Some entry ∷ []) ≡ (if test entry.0 then Some entry.1 else None)
found_last test [] entry none = refl
found_last test (None ∷ places) entry none = found_last test places entry none
found_last {K} {V} test (Some first ∷ places) entry none =
    let Goal : Bool → Type 0 = λ b. (if b then Some first.1 else find test places) ≡ None →
    (if b then Some first.1 else find test (places ++ Some entry ∷ [])) ≡ (if test entry.0 then Some entry.1 else None) in
    let by_test : (b : Bool) → Goal b = λ b. elim b as Goal [
      | true ↦ λ here. absurd (cc)
      | false ↦ λ here. found_last test places entry here
    ] in by_test (test first.0) none

module _ {K : Type 0} (same : K → K → Bool) (exact : (a b : K) → same a b ≡ true → a ≡ b) (itself : (a : K) → same a a ≡ true) where
  -- what a look-up uses is found after it
  pub found_after : {V E : Type 0} → (room : ℕ) (key : K) (places : List (Option (K × V))) (told : Result V E) (value : V) →
      (look key (find (same key) places) told).used ≡ Ok value →
      find (same key) (filled_by room (look key (find (same key) places) told).filled places) ≡ Some value
  found_after {V} {E} room key places told value used =
      let Goal : Option V → Type 0 = λ o. find (same key) places ≡ o → (look {E = E} key o told).used ≡ Ok value →
      find (same key) (filled_by room (look {E = E} key o told).filled places) ≡ Some value in
      let by_found : (o : Option V) → Goal o = λ o. elim o as Goal [
        | Some held ↦ λ is used. let one : held ≡ value = cc in is ∙ ap (λ (v : V). Some v) one
        | None ↦ λ none.
            let Told : Result V E → Type 0 = λ told. (look {K = K} {V = V} {E = E} key None told).used ≡ Ok value →
            find (same key) (filled_by room (look {K = K} {V = V} {E = E} key None told).filled places) ≡ Some value in
            elim told as Told [
              | Ok own ↦ λ used.
                  let one : own ≡ value = cc in
                  found_last (same key) (made_room room places) (key, own) (room_none (same key) room places none)
                  ∙ ap (λ (b : Bool). if b then Some own else None) (itself key) ∙ ap (λ (v : V). Some v) one
              | Err why ↦ λ used. absurd (cc)
            ]
      ] in by_found (find (same key) places) refl used
