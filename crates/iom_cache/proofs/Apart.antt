-- No two live places have one key: kept by fills and drops.
use Rattle.std.proofs.Common.{◌≡◌, ◌<◌, ◌++◌, List, [], ◌∷◌, ◌==◌, length, map, nat_lt, Bool, true, false, Option, Some, None, is_some, if◌then◌else◌, refl, ap, ◌∙◌, arith}
use Rattle.iom_nested.specs.declared.translation.Hit.{Hit}
use Rattle.iom_cache.specs.declared.key.Key.{Key}
use Rattle.iom_cache.specs.Index.{AreApart}
use Rattle.iom_cache.specs.Keys.{same_key}
use Rattle.iom_cache.specs.Places.{dropped_by, find, made_room, may_follow}
use Rattle.iom_cache.proofs.Same.{same_key_exact, same_key_itself}

-- where nothing is found at a live place and behind it
pub record FoundNone (key : Key) (entry : Key × Hit) (places : List (Option (Key × Hit))) : Type 0 where
  pub differs : same_key key entry.0 ≡ false
  pub behind : find (same_key key) places ≡ None

pub found_none : (key : Key) (entry : Key × Hit) (places : List (Option (Key × Hit))) → find (same_key key) (Some entry ∷ places) ≡ None →
    FoundNone key entry places
found_none key entry places e =
    let Goal : Bool → Type 0 = λ b. same_key key entry.0 ≡ b → (if b then Some entry.1 else find (same_key key) places) ≡ None → FoundNone key entry places in
    let by_test : (b : Bool) → Goal b = λ b. elim b as Goal [
      | true ↦ λ is e. absurd (cc)
      | false ↦ λ is e. record { differs = is; behind = e }
    ] in by_test (same_key key entry.0) refl e

-- the test goes both ways
differs_back : (key own : Key) → same_key key own ≡ false → same_key own key ≡ false
differs_back key own differs =
    let Goal : Bool → Type 0 = λ b. same_key own key ≡ b → same_key own key ≡ false in
    let by_test : (b : Bool) → Goal b = λ b. elim b as Goal [
      | true ↦ λ is.
          let same : own ≡ key = same_key_exact own key is in
          let e : same_key key own ≡ true = ap (same_key key) same ∙ same_key_itself key in absurd (cc)
      | false ↦ λ is. is
    ] in by_test (same_key own key) refl

passed : (key : Key) (entry : Key × Hit) (places : List (Option (Key × Hit))) → same_key key entry.0 ≡ false → find (same_key key) places ≡ None →
    find (same_key key) (Some entry ∷ places) ≡ None
passed key entry places differs behind = rw differs behind

-- a fill
find_filled : (key : Key) (places : List (Option (Key × Hit))) (entry : Key × Hit) → find (same_key key) places ≡ None → same_key key entry.0 ≡ false →
    find (same_key key) (places ++ Some entry ∷ []) ≡ None
find_filled key [] entry none differs = passed key entry [] differs refl
find_filled key (None ∷ places) entry none differs = find_filled key places entry none differs
find_filled key (Some own ∷ places) entry none differs =
    let f = found_none key own places none in
    passed key own (places ++ Some entry ∷ []) f.differs (find_filled key places entry f.behind differs)

pub apart_filled : (places : List (Option (Key × Hit))) (entry : Key × Hit) → AreApart places → find (same_key entry.0) places ≡ None →
    AreApart (places ++ Some entry ∷ [])
apart_filled [] entry apart none = (refl, tt)
apart_filled (None ∷ places) entry apart none = apart_filled places entry apart none
apart_filled (Some own ∷ places) entry apart none =
    let f = found_none entry.0 own places none in (
      find_filled own.0 places entry apart.0 (differs_back entry.0 own.0 f.differs),
      apart_filled places entry apart.1 f.behind,
    )

-- an empty place at the end
find_before_empty : (key : Key) (places : List (Option (Key × Hit))) → find (same_key key) places ≡ None →
    find (same_key key) (places ++ None ∷ []) ≡ None
find_before_empty key [] none = refl
find_before_empty key (None ∷ places) none = find_before_empty key places none
find_before_empty key (Some own ∷ places) none =
    let f = found_none key own places none in passed key own (places ++ None ∷ []) f.differs (find_before_empty key places f.behind)

apart_before_empty : (places : List (Option (Key × Hit))) → AreApart places → AreApart (places ++ None ∷ [])
apart_before_empty [] apart = tt
apart_before_empty (None ∷ places) apart = apart_before_empty places apart
apart_before_empty (Some own ∷ places) apart = (find_before_empty own.0 places apart.0, apart_before_empty places apart.1)

not_found : (found : Option Hit) → is_some found ≡ false → found ≡ None
not_found None e = refl
not_found (Some hit) e = absurd (cc)

-- what is appended as it is
pub record IsNext (places : List (Option (Key × Hit))) (place : Option (Key × Hit)) : Type 0 where
  pub room : length places < 64
  pub apart : AreApart (places ++ place ∷ [])

pub next_is_apart : (places : List (Option (Key × Hit))) (place : Option (Key × Hit)) → may_follow same_key 64 places place ≡ true →
    AreApart places → IsNext places place
next_is_apart places None may apart = record { room = grind arith; apart = apart_before_empty places apart }
next_is_apart places (Some entry) may apart =
    let room : nat_lt (length places) 64 ≡ true = grind arith in
    let new : is_some (find (same_key entry.0) places) ≡ false = grind arith in
    record { room = grind arith; apart = apart_filled places entry apart (not_found (find (same_key entry.0) places) new) }

-- the oldest place leaves
pub apart_behind : (place : Option (Key × Hit)) (places : List (Option (Key × Hit))) → AreApart (place ∷ places) → AreApart places
apart_behind None places apart = apart
apart_behind (Some entry) places apart = apart.1

pub none_behind : (key : Key) (place : Option (Key × Hit)) (places : List (Option (Key × Hit))) → find (same_key key) (place ∷ places) ≡ None →
    find (same_key key) places ≡ None
none_behind key None places none = none
none_behind key (Some entry) places none = (found_none key entry places none).behind

pub none_in_room : (key : Key) (places : List (Option (Key × Hit))) → find (same_key key) places ≡ None →
    find (same_key key) (made_room 64 places) ≡ None
none_in_room key [] none = refl
none_in_room key (place ∷ places) none =
    elim (length (place ∷ places) == 64) as (λ b. find (same_key key) (if b then places else place ∷ places) ≡ None) [
      | true ↦ none_behind key place places none
      | false ↦ none
    ]

-- a drop
module _ (drops : Key → Hit → Bool) where
  find_dropped : (key : Key) (places : List (Option (Key × Hit))) → find (same_key key) places ≡ None →
      find (same_key key) (map (dropped_by drops) places) ≡ None
  find_dropped key [] none = refl
  find_dropped key (None ∷ places) none = find_dropped key places none
  find_dropped key (Some entry ∷ places) none =
      let f = found_none key entry places none in
      let rest = find_dropped key places f.behind in
      elim (drops entry.0 entry.1) as (λ b. find (same_key key) ((if b then None else Some entry) ∷ map (dropped_by drops) places) ≡ None) [
        | true ↦ rest
        | false ↦ passed key entry (map (dropped_by drops) places) f.differs rest
      ]

  pub apart_dropped : (places : List (Option (Key × Hit))) → AreApart places → AreApart (map (dropped_by drops) places)
  apart_dropped [] apart = tt
  apart_dropped (None ∷ places) apart = apart_dropped places apart
  apart_dropped (Some entry ∷ places) apart =
      let rest = apart_dropped places apart.1 in
      elim (drops entry.0 entry.1) as (λ b. AreApart ((if b then None else Some entry) ∷ map (dropped_by drops) places)) [
        | true ↦ rest
        | false ↦ (find_dropped entry.0 places apart.0, rest)
      ]

-- of a list in which no two live places have one key each place may stand behind those in front of it
differs_at : (key : Key) (places more : List (Option (Key × Hit))) (entry : Key × Hit) → find (same_key key) (places ++ Some entry ∷ more) ≡ None →
    same_key key entry.0 ≡ false
differs_at key [] more entry none = (found_none key entry more none).differs
differs_at key (None ∷ places) more entry none = differs_at key places more entry none
differs_at key (Some own ∷ places) more entry none =
    differs_at key places more entry (found_none key own (places ++ Some entry ∷ more) none).behind

none_in_front : (places more : List (Option (Key × Hit))) (entry : Key × Hit) → AreApart (places ++ Some entry ∷ more) →
    find (same_key entry.0) places ≡ None
none_in_front [] more entry apart = refl
none_in_front (None ∷ places) more entry apart = none_in_front places more entry apart
none_in_front (Some own ∷ places) more entry apart =
    passed entry.0 own places (differs_back own.0 entry.0 (differs_at own.0 places more entry apart.0)) (none_in_front places more entry apart.1)

pub may_stand : (places more : List (Option (Key × Hit))) (place : Option (Key × Hit)) → AreApart (places ++ place ∷ more) → length places < 64 →
    may_follow same_key 64 places place ≡ true
may_stand places more None apart room = grind arith
may_stand places more (Some entry) apart room =
    let none : find (same_key entry.0) places ≡ None = none_in_front places more entry apart in
    let has_room : nat_lt (length places) 64 ≡ true = grind arith in rw (none, has_room) refl
