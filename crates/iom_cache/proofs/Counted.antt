-- What a walk along a bucket finds and counts.
use Rattle.std.proofs.Common.{◌≡◌, ◌<◌, ◌≤◌, ◌==◌, ◌∙◌, ℕ, zero, suc, List, [], ◌∷◌, length, get_or, drop, Bool, true, false, Option, Some, None, if◌then◌else◌, refl, sym, ap, subst, inl, inr, IfSome, arith}
use Rattle.std.proofs.Math.Seq.{drop-cons, drop-length}
use Rattle.std.proofs.lemmas.Bool.{cases_lt}
use Rattle.std.proofs.lemmas.List.{length-drop}
use Rattle.iom_nested.specs.declared.translation.Hit.{Hit}
use Rattle.iom_cache.specs.declared.key.Key.{Key}
use Rattle.iom_cache.specs.Buckets.{bucket_of, compared, count_in, from_key, is_in}
use Rattle.iom_cache.specs.Index.{AreApart, Leads, hit_of, is_in_at, position}
use Rattle.iom_cache.specs.Keys.{same_key}
use Rattle.iom_cache.specs.Places.{find, place_of}
use Rattle.iom_cache.proofs.Chains.{Led, led_to, none_below}
use Rattle.iom_cache.proofs.Same.{same_key_exact}

-- a place that isn't of the key's bucket counts for nothing and doesn't have the key
not_counted : (bucket : ℕ) (place : Option (Key × Hit)) (places : List (Option (Key × Hit))) → is_in bucket place ≡ false →
    count_in bucket (place ∷ places) ≡ count_in bucket places
not_counted bucket place places other = rw other refl

counted : (bucket : ℕ) (place : Option (Key × Hit)) (places : List (Option (Key × Hit))) → is_in bucket place ≡ true →
    count_in bucket (place ∷ places) ≡ suc (count_in bucket places)
counted bucket place places is = rw is refl

other_key : (key : Key) (entry : Key × Hit) → (bucket_of entry.0 == bucket_of key) ≡ false → same_key key entry.0 ≡ false
other_key key entry other =
    let Goal : Bool → Type 0 = λ b. same_key key entry.0 ≡ b → same_key key entry.0 ≡ false in
    let by_test : (b : Bool) → Goal b = λ b. elim b as Goal [
      | true ↦ λ is.
          let same : bucket_of entry.0 ≡ bucket_of key = sym (ap bucket_of (same_key_exact key entry.0 is)) in
          let e : (bucket_of entry.0 == bucket_of key) ≡ true = grind (arith, same) in absurd (cc)
      | false ↦ λ is. is
    ] in by_test (same_key key entry.0) refl

not_found : (key : Key) (place : Option (Key × Hit)) (places : List (Option (Key × Hit))) → is_in (bucket_of key) place ≡ false →
    find (same_key key) (place ∷ places) ≡ find (same_key key) places
not_found key None places other = refl
not_found key (Some entry) places other = let e = other_key key entry other in rw e refl

-- none of the places from a on and below m is of the bucket
module _ (key : Key) (places : List (Option (Key × Hit))) where
  pub gap_counted : (a m : ℕ) → a ≤ m → m ≤ length places →
      ((j : ℕ) → a ≤ j → j < m → is_in_at (bucket_of key) places j ≡ false) →
      count_in (bucket_of key) (drop a places) ≡ count_in (bucket_of key) (drop m places)
  gap_counted a zero below inside none = let e : a ≡ 0 = omega arith in ap (λ (n : ℕ). count_in (bucket_of key) (drop n places)) e
  gap_counted a (suc m) below inside none = elim (cases_lt m a) [
    | inl lt ↦ let e : a ≡ suc m = omega arith in ap (λ (n : ℕ). count_in (bucket_of key) (drop n places)) e
    | inr ge ↦
        gap_counted a m ge (omega arith) (λ j from low. none j from (omega arith))
        ∙ ap (count_in (bucket_of key)) (drop-cons places m None (omega arith))
        ∙ not_counted (bucket_of key) (get_or places m None) (drop (suc m) places) (none m ge (omega arith))
  ]

  pub gap_found : (a m : ℕ) → a ≤ m → m ≤ length places →
      ((j : ℕ) → a ≤ j → j < m → is_in_at (bucket_of key) places j ≡ false) →
      find (same_key key) (drop a places) ≡ find (same_key key) (drop m places)
  gap_found a zero below inside none = let e : a ≡ 0 = omega arith in ap (λ (n : ℕ). find (same_key key) (drop n places)) e
  gap_found a (suc m) below inside none = elim (cases_lt m a) [
    | inl lt ↦ let e : a ≡ suc m = omega arith in ap (λ (n : ℕ). find (same_key key) (drop n places)) e
    | inr ge ↦
        gap_found a m ge (omega arith) (λ j from low. none j from (omega arith))
        ∙ ap (find (same_key key)) (drop-cons places m None (omega arith))
        ∙ not_found key (get_or places m None) (drop (suc m) places) (none m ge (omega arith))
  ]

-- the place that has the key is the one found
hit_is : (key : Key) (entry : Key × Hit) (hit : Hit) → hit_of key (Some entry) ≡ Some hit → (same_key key entry.0 ≡ true) × (entry.1 ≡ hit)
hit_is key entry hit is =
    let Goal : Bool → Type 0 = λ b. same_key key entry.0 ≡ b → (if b then Some entry.1 else None) ≡ Some hit → (same_key key entry.0 ≡ true) × (entry.1 ≡ hit) in
    let by_test : (b : Bool) → Goal b = λ b. elim b as Goal [
      | true ↦ λ e is. (e, cc)
      | false ↦ λ e is. absurd (cc)
    ] in by_test (same_key key entry.0) refl is

-- what is found at a place
pub record FoundAt (key : Key) (all places : List (Option (Key × Hit))) (at : ℕ) (hit : Hit) : Type 0 where
  pub found : find (same_key key) places ≡ Some hit
  pub place : place_of (same_key key) places ≡ at
  pub from : from_key key all places ≡ drop at places

pub found_at : (key : Key) (all places : List (Option (Key × Hit))) (at : ℕ) (hit : Hit) → AreApart places → hit_of key (get_or places at None) ≡ Some hit →
    FoundAt key all places at hit
found_at key all [] at hit apart is = absurd (cc)
found_at key all (None ∷ places) zero hit apart is = absurd (cc)
found_at key all (None ∷ places) (suc at) hit apart is =
    let f = found_at key all places at hit apart is in record { found = f.found; place = ap suc f.place; from = f.from }
found_at key all (Some entry ∷ places) zero hit apart is =
    let h = hit_is key entry hit is in record {
      found = rw h.0 (ap (λ (x : Hit). Some x) h.1);
      place = rw h.0 refl;
      from = rw h.0 refl;
    }
found_at key all (Some entry ∷ places) (suc at) hit apart is =
    let f = found_at key all places at hit apart.1 is in
    let Goal : Bool → Type 0 = λ b. same_key key entry.0 ≡ b → same_key key entry.0 ≡ false in
    let by_test : (b : Bool) → Goal b = λ b. elim b as Goal [
      | true ↦ λ e.
          let own : key ≡ entry.0 = same_key_exact key entry.0 e in
          let none : find (same_key key) places ≡ None = subst (λ (k : Key). find (same_key k) places ≡ None) (sym own) apart.0 in
          let some = f.found in absurd (cc)
      | false ↦ λ e. e
    ] in
    let differs = by_test (same_key key entry.0) refl in record {
      found = rw differs f.found;
      place = rw differs (ap suc f.place);
      from = rw differs f.from;
    }

-- a place without the key is passed
pub passed_at : (key : Key) (places : List (Option (Key × Hit))) (at : ℕ) → at < length places → hit_of key (get_or places at None) ≡ None →
    find (same_key key) (drop (suc at) places) ≡ None → find (same_key key) (drop at places) ≡ None
passed_at key places at inside none behind =
    let place = get_or places at None in
    let one : (place : Option (Key × Hit)) → hit_of key place ≡ None → find (same_key key) (place ∷ drop (suc at) places) ≡ None = λ place. elim place as (λ p. hit_of key p ≡ None → find (same_key key) (p ∷ drop (suc at) places) ≡ None) [
      | None ↦ λ e. behind
      | Some entry ↦ λ e.
          let Goal : Bool → Type 0 = λ b. (if b then Some entry.1 else None) ≡ None → (if b then Some entry.1 else find (same_key key) (drop (suc at) places)) ≡ None in
          let by_test : (b : Bool) → Goal b = λ b. elim b as Goal [
            | true ↦ λ e. absurd (cc)
            | false ↦ λ e. behind
          ] in by_test (same_key key entry.0) e
    ] in
    ap (find (same_key key)) (drop-cons places at None inside) ∙ one place none

from_none : (key : Key) (all places : List (Option (Key × Hit))) → find (same_key key) places ≡ None → from_key key all places ≡ all
from_none key all [] none = refl
from_none key all (None ∷ places) none = from_none key all places none
from_none key all (Some entry ∷ places) none =
    let Goal : Bool → Type 0 = λ b. (if b then Some entry.1 else find (same_key key) places) ≡ None → (if b then Some entry ∷ places else from_key key all places) ≡ all in
    let by_test : (b : Bool) → Goal b = λ b. elim b as Goal [
      | true ↦ λ e. absurd (cc)
      | false ↦ λ e. from_none key all places e
    ] in by_test (same_key key entry.0) none

-- where none has the key
pub nowhere : (key : Key) (places : List (Option (Key × Hit))) → find (same_key key) places ≡ None → place_of (same_key key) places ≡ length places
nowhere key [] none = refl
nowhere key (None ∷ places) none = ap suc (nowhere key places none)
nowhere key (Some entry ∷ places) none =
    let Goal : Bool → Type 0 = λ b. (if b then Some entry.1 else find (same_key key) places) ≡ None →
    (if b then 0 else suc (place_of (same_key key) places)) ≡ suc (length places) in
    let by_test : (b : Bool) → Goal b = λ b. elim b as Goal [
      | true ↦ λ e. absurd (cc)
      | false ↦ λ e. ap suc (nowhere key places e)
    ] in by_test (same_key key entry.0) none

-- where the walk stands: it leads on below `limit`, and of the places from there on it has counted the bucket's and found none
pub record IsWalked (links : List ℕ) (first : ℕ) (key : Key) (places : List (Option (Key × Hit))) (slot limit count : ℕ) : Type 0 where
  pub leads : Leads links first (bucket_of key) places slot limit
  pub inside : limit ≤ length places
  pub none : find (same_key key) (drop limit places) ≡ None
  pub so_far : count ≡ count_in (bucket_of key) (drop limit places)

-- the walk begins with the bucket's newest place
pub walk_begun : (links : List ℕ) (first : ℕ) (key : Key) (places : List (Option (Key × Hit))) (slot : ℕ) →
    Leads links first (bucket_of key) places slot (length places) → IsWalked links first key places slot (length places) 0
walk_begun links first key places slot leads = record {
  leads = leads;
  inside = omega arith;
  none = ap (find (same_key key)) (drop-length places);
  so_far = sym (ap (count_in (bucket_of key)) (drop-length places));
}

module _ (links : List ℕ) (first : ℕ) (key : Key) (places : List (Option (Key × Hit))) (slot limit count : ℕ)
    (h : IsWalked links first key places slot limit count) where
  abbrev pub at : ℕ
  at = position first slot

  -- what is so at the next place
  pub record IsNext : Type 0 where
    pub led : Leads links first (bucket_of key) places (get_or links slot 64) at
    pub inside : at < length places
    pub none : find (same_key key) (drop (suc at) places) ≡ None
    pub so_far : suc count ≡ count_in (bucket_of key) (drop at places)

  pub walked_next : at < limit → IsNext
  walked_next low =
      let led : Led links first (bucket_of key) places slot at limit = led_to links first (bucket_of key) places slot limit h.leads low in
      let few = h.inside in
      let inside : at < length places = omega (arith, low, few) in
      let above : (j : ℕ) → suc at ≤ j → j < limit → is_in_at (bucket_of key) places j ≡ false = λ j from lt. led.above j from lt in
      let none : find (same_key key) (drop (suc at) places) ≡ None = gap_found key places (suc at) limit low few above ∙ h.none in
      let behind : count_in (bucket_of key) (drop (suc at) places) ≡ count_in (bucket_of key) (drop limit places) = gap_counted key places (suc at) limit low few above in
      record {
        led = led.behind;
        inside = inside;
        none = none;
        so_far = ap suc (h.so_far ∙ sym behind)
            ∙ sym (counted (bucket_of key) (get_or places at None) (drop (suc at) places) led.is)
            ∙ sym (ap (count_in (bucket_of key)) (drop-cons places at None inside));
      }

  -- the key isn't there: the walk goes on
  pub walked_on : at < limit → hit_of key (get_or places at None) ≡ None → IsWalked links first key places (get_or links slot 64) at (suc count)
  walked_on low other =
      let n = walked_next low in
      let inside = n.inside in
      record { leads = n.led; inside = omega (arith, inside); none = passed_at key places at n.inside other n.none; so_far = n.so_far }

  -- it is
  pub walked_found : (hit : Hit) → AreApart places → at < limit → hit_of key (get_or places at None) ≡ Some hit →
      (at ≡ place_of (same_key key) places) × (Some hit ≡ find (same_key key) places) × (suc count ≡ compared key places)
  walked_found hit apart low is =
      let f = found_at key places places at hit apart is in
      (sym f.place, sym f.found, (walked_next low).so_far ∙ sym (ap (count_in (bucket_of key)) f.from))

  -- the bucket ends
  pub walked_out : limit ≤ at → (length places ≡ place_of (same_key key) places) × (None ≡ find (same_key key) places) × (count ≡ compared key places)
  walked_out far =
      let below = none_below links first (bucket_of key) places slot limit h.leads far in
      let none : find (same_key key) places ≡ None = gap_found key places 0 limit (omega arith) h.inside (λ j from low. below j low) ∙ h.none in (
        sym (nowhere key places none),
        sym none,
        h.so_far ∙ sym (gap_counted key places 0 limit (omega arith) h.inside (λ j from low. below j low))
            ∙ sym (ap (count_in (bucket_of key)) (from_none key places places none)),
      )

-- no more are counted than there are
count_few : (bucket : ℕ) (places : List (Option (Key × Hit))) → count_in bucket places ≤ length places
count_few bucket [] = omega arith
count_few bucket (place ∷ places) =
    let few = count_few bucket places in
    elim (is_in bucket place) as (λ b. (if b then suc (count_in bucket places) else count_in bucket places) ≤ suc (length places)) [
      | true ↦ omega arith
      | false ↦ omega arith
    ]

pub walked_few : (links : List ℕ) (first : ℕ) (key : Key) (places : List (Option (Key × Hit))) (slot limit count : ℕ) →
    IsWalked links first key places slot limit count → count ≤ length places
walked_few links first key places slot limit count h =
    let few = count_few (bucket_of key) (drop limit places) in
    let len = length-drop limit places in
    let is = h.so_far in
    omega (arith, few, len, is)

-- a place that has the key is the one found
pub hit_is_found : (key : Key) (places : List (Option (Key × Hit))) (at : ℕ) (o : Option Hit) → AreApart places →
    o ≡ hit_of key (get_or places at None) → IfSome o (λ hit. find (same_key key) places ≡ Some hit)
hit_is_found key places _ None apart is = tt
hit_is_found key places at (Some hit) apart is = (found_at key places places at hit apart (sym is)).found
